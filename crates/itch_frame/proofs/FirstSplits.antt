-- The block at the front of some bytes, and the bytes after it.
use Rattle.std.proofs.Common.{◌≡◌, ℕ, ◌-◌, ◌≤◌, List, ◌++◌, length, take, drop, sym, ap, subst, ◌∙◌, arith}
use Rattle.std.proofs.lemmas.List.{take-append-drop, take_at, take_rest, length-take-le}
use Rattle.itch_frame.specs.Blocks.{IsPayload, IsBlock, block}

-- if the first `size` bytes are a block, they are its length and its payload, and the rest follows
pub split_is : (bytes : List ℕ) (size : ℕ) → size ≤ length bytes → IsBlock (take size bytes)
    → IsPayload (take (size - 2) (drop 2 bytes)) × (bytes ≡ block (take (size - 2) (drop 2 bytes)) ++ take (length bytes - size) (drop size bytes))
split_is bytes size within (p, (fits, is)) =
    let whole : bytes ≡ block p ++ drop size bytes = sym (take-append-drop size bytes) ∙ ap (λ front. front ++ drop size bytes) is in
    let long : size ≡ length (block p) = sym (length-take-le size bytes within) ∙ ap length is in
    let payload : take (size - 2) (drop 2 bytes) ≡ p =
    ap (λ all. take (size - 2) (drop 2 all)) whole ∙ take_at p (drop size bytes) (size - 2) (omega (arith, long)) in (
      subst IsPayload (sym payload) fits,
      whole ∙ ap (λ front. block front ++ drop size bytes) (sym payload) ∙ ap (λ rest. block (take (size - 2) (drop 2 bytes)) ++ rest) (sym (take_rest bytes size)),
    )
