-- What the functions of a session owe each other.
use Rattle.std.specs.Prelude.{Bool, false, ◌≡◌, ℕ, ◌+◌, ◌*◌, ◌≤◌, ◌<◌}
use Rattle.steps.specs.Records.{record_bytes}
use Rattle.transcript.specs.Transcript.{batch}

-- program 9: the records of so many bytes were obeyed after so many before them: so many bytes are kept, so many records are obeyed now, and less
-- than a record is kept unless bad was said
pub record Advance (earlier filled kept obeyed : ℕ) (over : Bool) : Type 0 where
  pub few : obeyed ≤ earlier + batch
  pub left : kept ≤ filled
  pub bytes : record_bytes * obeyed + kept ≡ record_bytes * earlier + filled
  pub short : over ≡ false → kept < record_bytes
