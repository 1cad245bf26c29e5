-- Whether streams have failed.
use Rattle.std.specs.Prelude.{ℕ, nat_lt, ◌&&◌, Bool, true, false, List, length, Option, Result, Ok, Err}
use Rattle.crew_session.specs.declared.noted.NotedReader.{NotedReader}
use Rattle.crew_session.specs.declared.noted.NotedWriter.{NotedWriter}

-- the bytes that a reader has left, as the one underneath tells them, and whether it has failed
abbrev pub bytes_left : {R : Type 0} → (R → Option (List ℕ)) → NotedReader R → Option (List ℕ)
bytes_left remaining reader = remaining reader.reader

abbrev pub read_failed : {R : Type 0} → NotedReader R → Bool
read_failed reader = reader.has_failed

-- a reader has been at its end
abbrev pub read_ended : {R : Type 0} → NotedReader R → Bool
read_ended reader = reader.has_ended

-- the bytes that a writer holds, as the one underneath tells them, and whether it has failed
abbrev pub bytes_held : {W : Type 0} → (W → Option (List ℕ)) → NotedWriter W → Option (List ℕ)
bytes_held contents writer = contents writer.writer

abbrev pub write_failed : {W : Type 0} → NotedWriter W → Bool
write_failed writer = writer.has_failed

-- a read fails by an error, or by bytes after the end
abbrev pub is_read_failure : {E : Type 0} → Bool → Result ℕ E → Bool
is_read_failure ended (Ok given) = ended && nat_lt 0 given
is_read_failure ended (Err error) = true

-- a write fails by an error, or where it takes nothing of a text that has something
abbrev pub is_write_failure : {E : Type 0} → List ℕ → Result ℕ E → Bool
is_write_failure text (Ok taken) = nat_lt taken 1 && nat_lt 0 (length text)
is_write_failure text (Err error) = true

-- a flush fails by an error
abbrev pub is_flush_failure : {E : Type 0} → Result (Unit {0}) E → Bool
is_flush_failure (Ok done) = false
is_flush_failure (Err error) = true
