-- The bytes of a file to which a buffer was written.
use Rattle.std.proofs.Common.{ℕ, List, [], ◌++◌, Option, None, Some, ap, ◌∙◌}
use Rattle.std.specs.Io.KnownBytes.{append_known, Appends, Keeps}
use Rattle.std.proofs.lemmas.List.{append-nil}

-- bytes were appended to an empty buffer, and then written
pub written : (file buffered now : Option (List ℕ)) (bytes : List ℕ) → Appends (append_known file []) buffered bytes → Keeps buffered now → Appends file now bytes
written None buffered now bytes appended kept = tt
written (Some xs) None now bytes appended kept = absurd appended
written (Some xs) (Some ys) None bytes appended kept = absurd kept
written (Some xs) (Some ys) (Some zs) bytes appended kept = kept ∙ appended ∙ ap (λ front. front ++ bytes) (append-nil xs)
