-- The bytes of fields, one after another.
use Rattle.std.proofs.lemmas.List.{append_assoc, append-nil}

pub ruleset joining = (append_assoc, append-nil)
