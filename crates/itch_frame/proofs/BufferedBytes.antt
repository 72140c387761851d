-- The known bytes after some bytes of a buffer are passed over.
use Rattle.std.proofs.Common.{◌≡◌, ℕ, List, ◌++◌, take, drop, Bool, true, false, sym, ap, subst, ◌∙◌, append_assoc, Option, Some, None, IfSome, length}
use Rattle.std.specs.Prelude.{if◌then◌else◌, ◌==◌}
use Rattle.std.specs.declared.io.buffered.BufReader.{BufReader}
use Rattle.std.specs.Io.Buffered.{reader_buffer, reader_capacity, reader_inner, reader_remaining}
use Rattle.std.specs.Io.KnownBytes.{prepend_known, Consumes}
use Rattle.std.proofs.lemmas.List.{take-append-drop}
use Rattle.std.proofs.Math.Seq.{take-append_seam}

-- the first n bytes of a buffer go, if any are known: a buffer of size 0 holds none
passed : (is_none : Bool) (ahead : List ℕ) (rest : Option (List ℕ)) (n : ℕ)
    → Consumes (if is_none then None else prepend_known ahead rest) (if is_none then None else prepend_known (drop n ahead) rest) (take n ahead)
passed true ahead rest n = tt
passed false ahead None n = tt
passed false ahead (Some bytes) n = ap (λ b. b ++ bytes) (sym (take-append-drop n ahead)) ∙ append_assoc (take n ahead) (drop n ahead) bytes

-- the first n bytes of a buffer go, and no bytes after the buffer
pub passed_over : {T A : Type 0} (remaining : T → Option (List ℕ)) (old new : BufReader T A) (n : ℕ)
    → reader_buffer new ≡ drop n (reader_buffer old) → reader_inner new ≡ reader_inner old → reader_capacity new ≡ reader_capacity old
    → Consumes (reader_remaining remaining old) (reader_remaining remaining new) (take n (reader_buffer old))
passed_over remaining old new n buffer inner capacity =
    subst (λ (left : Option (List ℕ)). Consumes (reader_remaining remaining old) left (take n (reader_buffer old)))
    (λ i. if sym capacity i == 0 then None else prepend_known (sym buffer i) (remaining (sym inner i)))
    (passed (reader_capacity old == 0) (reader_buffer old) (remaining (reader_inner old)) n)

-- the bytes of a buffer are the first of the remaining bytes
pub come_next : (is_none : Bool) (ahead : List ℕ) (rest : Option (List ℕ))
    → IfSome (if is_none then None else prepend_known ahead rest) (λ all. take (length ahead) all ≡ ahead)
come_next true ahead rest = tt
come_next false ahead None = tt
come_next false ahead (Some bytes) = take-append_seam ahead bytes
