-- What a source over a file means. Assumes nothing.
use Rattle.kinds.specs.declared.document.OpId.{OpId}
use Rattle.kinds.specs.declared.text.ShortStr.{ShortStr}
use Rattle.kinds.specs.declared.value.ScalarValue.{ScalarValue}
use Rattle.sources.specs.Meaning.{Meaning}
use Rattle.house.specs.Held.{filed}
use Rattle.file.specs.Files.{file_bytes}
use Rattle.file_source.specs.declared.FileSource.{FileSource}

-- The records of its file from the one that is first now.
abbrev pub file_means : FileSource → Meaning OpId ShortStr ScalarValue
file_means s = filed (file_bytes s.file) s.at
