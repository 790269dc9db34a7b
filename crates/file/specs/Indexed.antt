-- What the index of a section holds. Assumes nothing.
use Rattle.std.specs.Prelude.{◌≡◌, ℕ, ◌*◌, ◌<◌, length, slice_index}
use Rattle.file.specs.declared.index.Index.{Index}

-- Of the first n items it has the places of those below 256, and of every 256th of those below 65536.
pub record Indexed (place : ℕ → ℕ) (n : ℕ) (index : Index) : Type 0 where
  pub near_size : length index.near ≡ 256
  pub far_size : length index.far ≡ 256
  pub near : (k : ℕ) → k < n → k < 256 → slice_index index.near k ≡ place k
  pub far : (k : ℕ) → k * 256 < n → k < 256 → slice_index index.far k ≡ place (k * 256)
