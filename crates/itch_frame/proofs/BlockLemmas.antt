-- The payloads of the bytes of blocks.
use Rattle.std.proofs.Common.{◌≡◌, ℕ, ◌%◌, ◌/◌, List, [], ◌∷◌, ◌++◌, length, take, drop, Option, refl, sym, ap, subst, ◌∙◌, append_assoc, arith}
use Rattle.std.specs.List.{AllByRecursion}
use Rattle.std.proofs.lemmas.List.{take_at, drop_at, append-nil}
use Rattle.std.proofs.lemmas.List.Concat.{flat_map-append}
use Rattle.std.specs.Io.KnownBytes.{Consumes}
use Rattle.std.proofs.KnownBytes.{Consumes-trans}
use Rattle.itch_frame.specs.Blocks.{IsPayload, block, blocks, Blocks}

-- if two equal streams begin with a block, the payloads are equal, and so are the bytes after them
pub same_block : (p q r s : List ℕ) → IsPayload p → IsPayload q → block p ++ r ≡ block q ++ s → (p ≡ q) × (r ≡ s)
same_block p q r s p_fits q_fits same =
    let high : length p / 256 % 256 ≡ length q / 256 % 256 = cc in
    let low : length p % 256 ≡ length q % 256 = cc in
    let following : p ++ r ≡ q ++ s = cc in
    let lengths : length p ≡ length q = omega arith in (
      sym (take_at p r (length p) refl) ∙ ap (take (length p)) following ∙ take_at q s (length p) (sym lengths),
      sym (drop_at p r (length p) refl) ∙ ap (drop (length p)) following ∙ drop_at q s (length p) (sym lengths),
    )

-- a block determines its payload
pub block_one : (p q : List ℕ) → IsPayload p → IsPayload q → block p ≡ block q → p ≡ q
block_one p q p_fits q_fits same = (same_block p q [] [] p_fits q_fits (ap (λ bytes. bytes ++ []) same)).0

-- the blocks of two lists of payloads, one after another
pub blocks-append : (ps qs : List (List ℕ)) → blocks (ps ++ qs) ≡ blocks ps ++ blocks qs
blocks-append ps qs = flat_map-append block ps qs

-- the blocks of one more payload
pub blocks-push : (ps : List (List ℕ)) (p : List ℕ) → blocks (ps ++ p ∷ []) ≡ blocks ps ++ block p
blocks-push ps p = blocks-append ps (p ∷ []) ∙ ap (λ bytes. blocks ps ++ bytes) (append-nil (block p))

-- one more block came off the front
pub consumed_more : (old mid new : Option (List ℕ)) (ps : List (List ℕ)) (p : List ℕ) → Consumes old mid (blocks ps) → Consumes mid new (block p) → Consumes old new (blocks (ps ++ p ∷ []))
consumed_more old mid new ps p first second = subst (Consumes old new) (sym (blocks-push ps p)) (Consumes-trans old mid new (blocks ps) (block p) first second)

-- no prefix of these bytes is the block of such a payload
abbrev pub HasNone : (List ℕ → Type 0) → List ℕ → Type 0
HasNone P bytes = (payload more : List ℕ) → P payload → bytes ≡ block payload ++ more → ⊥

-- no bytes contain no block
pub nothing_left : (P : List ℕ → Type 0) → HasNone P []
nothing_left P payload more holds same = cc

-- a stream of blocks has one reading, for any condition on its payloads
pub one_way : (P : List ℕ → Type 0) → ((p : List ℕ) → P p → IsPayload p) → (ps qs : List (List ℕ)) (r s : List ℕ)
    → AllByRecursion P ps → AllByRecursion P qs → HasNone P r → HasNone P s → blocks ps ++ r ≡ blocks qs ++ s → (ps ≡ qs) × (r ≡ s)
one_way P fits [] [] r s each_p each_q none_r none_s same = (refl, same)
one_way P fits [] (q ∷ qs) r s each_p each_q none_r none_s same = absurd (none_r q (blocks qs ++ s) each_q.0 (same ∙ append_assoc (block q) (blocks qs) s))
one_way P fits (p ∷ ps) [] r s each_p each_q none_r none_s same = absurd (none_s p (blocks ps ++ r) each_p.0 (sym same ∙ append_assoc (block p) (blocks ps) r))
one_way P fits (p ∷ ps) (q ∷ qs) r s each_p each_q none_r none_s same =
    let first : (p ≡ q) × (blocks ps ++ r ≡ blocks qs ++ s) =
    same_block p q (blocks ps ++ r) (blocks qs ++ s) (fits p each_p.0) (fits q each_q.0)
    (sym (append_assoc (block p) (blocks ps) r) ∙ same ∙ append_assoc (block q) (blocks qs) s) in
    let others : (ps ≡ qs) × (r ≡ s) = one_way P fits ps qs r s each_p.1 each_q.1 none_r none_s first.1 in
    (λ i. first.0 i ∷ others.0 i, others.1)

-- joined blocks determine the list of their payloads
pub blocks_one : (ps qs : List (List ℕ)) → AllByRecursion IsPayload ps → AllByRecursion IsPayload qs → blocks ps ≡ blocks qs → ps ≡ qs
blocks_one ps qs each_p each_q same =
    (one_way IsPayload (λ p fits. fits) ps qs [] [] each_p each_q (nothing_left IsPayload) (nothing_left IsPayload) (ap (λ bytes. bytes ++ []) same)).0

-- a stream has one reading as blocks and a rest
pub reading_one : (bytes : List ℕ) (ps qs : List (List ℕ)) (r s : List ℕ) → Blocks bytes ps r → Blocks bytes qs s → (ps ≡ qs) × (r ≡ s)
reading_one bytes ps qs r s p q =
    one_way IsPayload (λ p fits. fits) ps qs r s p.each q.each p.no_more q.no_more (sym p.whole ∙ q.whole)

-- a condition holds for all payloads of two lists, one after another
pub each-append : (P : List ℕ → Type 0) (ps qs : List (List ℕ)) → AllByRecursion P ps → AllByRecursion P qs → AllByRecursion P (ps ++ qs)
each-append P [] qs each_p each_q = each_q
each-append P (p ∷ ps) qs each_p each_q = (each_p.0, each-append P ps qs each_p.1 each_q)

-- and for one more payload
pub each-push : (P : List ℕ → Type 0) (ps : List (List ℕ)) (p : List ℕ) → AllByRecursion P ps → P p → AllByRecursion P (ps ++ p ∷ [])
each-push P ps p each_p holds = each-append P ps (p ∷ []) each_p (holds, tt)
