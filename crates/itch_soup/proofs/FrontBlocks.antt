-- The next bytes from the other side: a block, or no block.
use Rattle.std.proofs.Common.{◌≡◌, ℕ, ◌<◌, List, [], ◌∷◌, ◌++◌, length, Option, Some, None, Result, Err, sym, ap, subst, arith}
use Rattle.itch_frame.specs.Blocks.{IsPayload, block, HasNoBlock}
use Rattle.itch_frame.specs.declared.fault.FrameFault.TheVariants.{Truncated}
use Rattle.itch_frame.proofs.BlockLemmas.{same_block}
use Rattle.itch_soup.specs.declared.fault.SoupFault.{SoupFault}
use Rattle.itch_soup.specs.declared.fault.SoupFault.TheVariants as broke
use Rattle.itch_soup.specs.NextPackets.{ReadsBlock}

-- the block that was read is the first one
pub the_block : (q rest : List ℕ) (new : Option (List ℕ)) (P : List ℕ → Type 0) → IsPayload q → ReadsBlock (Some (block q ++ rest)) new P → P q
the_block q rest None P fits (payload, short, consumed, h) = absurd consumed
the_block q rest (Some c) P fits (payload, short, consumed, h) = subst P (sym (same_block q payload rest c fits short consumed).0) h

pub some_block : (b : List ℕ) (new : Option (List ℕ)) (P : List ℕ → Type 0) → HasNoBlock b → ReadsBlock (Some b) new P → ⊥
some_block b None P none (payload, short, consumed, h) = consumed
some_block b (Some c) P none (payload, short, consumed, h) = none payload c short consumed

pub no_bytes : (q rest : List ℕ) → block q ++ rest ≡ [] → ⊥
no_bytes q rest same = let no_one : ⊥ = cc in no_one

-- the end of the reading if there is no block: the end of the bytes, or an unfinished block
abbrev pub ends_by : {A : Type 0} → Result A SoupFault → List ℕ → Result A SoupFault
ends_by at_end [] = at_end
ends_by at_end (x ∷ xs) = Err (broke.Frame (Truncated (length (x ∷ xs))))

pub cut_off : {A : Type 0} (at_end : Result A SoupFault) (b : List ℕ) (held : ℕ) → 0 < length b → held ≡ length b → Err (broke.Frame (Truncated held)) ≡ ends_by at_end b
cut_off at_end [] held some count = absurd (omega arith)
cut_off at_end (x ∷ xs) held some count = ap (λ n. Err (broke.Frame (Truncated n))) count
