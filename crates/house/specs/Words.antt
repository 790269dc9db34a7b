-- Parts and reports in words. Assumes nothing.
use Rattle.std.specs.Prelude.{ℕ, List, ◌++◌, codes, decimal}
use Rattle.house.specs.declared.bad.Part.{Part}
use Rattle.house.specs.declared.bad.Part.TheVariants as parts
use Rattle.house.specs.declared.bad.Wrong.{Wrong}
use Rattle.house.specs.declared.bad.Wrong.TheVariants.{Cut, Broken}
use Rattle.house.specs.declared.bad.BadFile.{BadFile}

-- A part of the file.
abbrev pub part_words : Part → List ℕ
part_words parts.NamesCount = codes "the count of the names"
part_words parts.NameLength = codes "the length of a name"
part_words parts.NameBytes = codes "the bytes of a name"
part_words parts.ValuesCount = codes "the count of the values"
part_words parts.ValueKind = codes "the kind of a value"
part_words parts.TypeCode = codes "the type code of a value"
part_words parts.ValueLength = codes "the length of a value"
part_words parts.ValueBytes = codes "the bytes of a value"
part_words parts.RecordsCount = codes "the count of the records"
part_words parts.Tag = codes "the tag of a record"
part_words parts.Action = codes "the action of a record"
part_words parts.NameNumber = codes "the name number of a record"
part_words parts.ValueNumber = codes "the value number of a record"
part_words parts.FirstZero = codes "the first zero byte of a record"
part_words parts.SecondZero = codes "the second zero byte of a record"
part_words parts.Counter = codes "the counter of a record"
part_words parts.Actor = codes "the actor of a record"
part_words parts.TextStart = codes "the text start of a record"
part_words parts.TextLength = codes "the text length of a record"
part_words parts.TextCount = codes "the count of the text's bytes"
part_words parts.Text = codes "the text"
part_words parts.End = codes "the end of the file"

-- What a part of the file has to be.
abbrev pub rule_words : Part → List ℕ
rule_words parts.NamesCount = codes "there"
rule_words parts.NameLength = codes "at most 32"
rule_words parts.NameBytes = codes "well-formed UTF-8"
rule_words parts.ValuesCount = codes "there"
rule_words parts.ValueKind = codes "0 to 9"
rule_words parts.TypeCode = codes "0 unless the kind is Unknown"
rule_words parts.ValueLength = codes "8 for a number, 1 for Boolean, 0 for Null, else at most 32"
rule_words parts.ValueBytes = codes "well-formed UTF-8 for Str, 0 or 1 for Boolean"
rule_words parts.RecordsCount = codes "there"
rule_words parts.Tag = codes "0 to 2"
rule_words parts.Action = codes "0 to 7"
rule_words parts.NameNumber = codes "65535, or for a Mark the number of a name"
rule_words parts.ValueNumber = codes "the number of a value for a Mark with a name, of one that is not Str or 65535 for a Set, else 65535"
rule_words parts.FirstZero = codes "0"
rule_words parts.SecondZero = codes "0"
rule_words parts.Counter = codes "there"
rule_words parts.Actor = codes "there"
rule_words parts.TextStart = codes "at most the text's count for a Set without a value, else 0"
rule_words parts.TextLength = codes "within the text's count for a Set without a value, else 0"
rule_words parts.TextCount = codes "there"
rule_words parts.Text = codes "there"
rule_words parts.End = codes "where the text ends"

-- What is wrong with a part.
abbrev pub wrong_words : Wrong → Part → List ℕ
wrong_words Cut part = codes ": the file ends within " ++ part_words part
wrong_words (Broken cause) part = codes ": " ++ (part_words part ++ (codes " has to be " ++ rule_words part))

-- A report: its byte, and what is wrong there.
abbrev pub bad_words : BadFile → List ℕ
bad_words bad = codes "byte " ++ (decimal bad.byte ++ wrong_words bad.wrong bad.part)
