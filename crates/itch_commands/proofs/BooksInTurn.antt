-- The books of locates, written one after another, and sets whose locates the directory has.
use Rattle.std.proofs.Common.{◌≡◌, ℕ, ◌<◌, Bool, true, false, cond, List, [], ◌∷◌, ◌++◌, filter, flat_map, Option, IsSome, Ok, Err, refl, sym, ap, subst, ◌∙◌, append_assoc, append-nil}
use Rattle.std.specs.FinMap as finite
use Rattle.std.proofs.lemmas.List.{flat_map_more}
use Rattle.std.proofs.lemmas.List.Elements.{filter-append}
use Rattle.std.proofs.lemmas.Grind.{flat_map-append}
use Rattle.itch_frame.specs.declared.tally.Failures.{Failures}
use Rattle.itch_market.specs.Content.{Securities}
use Rattle.itch_market.specs.Wanted.{Wanted, has}
use Rattle.itch_commands.specs.declared.fault.ToolFault.{ToolFault}
use Rattle.itch_commands.specs.Outputs.{WritesText}
use Rattle.itch_commands.proofs.JoinedTexts.{text_then, text_fails}

-- the directory has the locates of a set that are below this one
abbrev pub ListedBefore : ℕ → Wanted → Securities → Type 0
ListedBefore next set listings = (locate : ℕ) → locate < next → has set locate ≡ true → IsSome (finite.get listings locate)

module _ {W : Type 0} (contents : W → Option (List ℕ)) (failures : W → Failures) (head : List ℕ) (lines : ℕ → List ℕ) (wanted : ℕ → Bool) (keys : List ℕ) (old : W) where
  -- the books of the requested ones among the locates seen were written, and the others remain
  pub record BooksSoFar (seen left : List ℕ) (new : W) : Type 0 where
    pub locates : keys ≡ seen ++ left
    pub wrote : WritesText contents failures (head ++ flat_map lines (filter wanted seen)) old (Ok tt) new

  pub books_begun : (new : W) → WritesText contents failures head old (Ok tt) new → BooksSoFar [] keys new
  books_begun new wrote = record {
    locates = refl;
    wrote = subst (λ text. WritesText contents failures text old (Ok tt) new) (sym (append-nil head)) wrote;
  }

  module _ (seen left : List ℕ) (locate : ℕ) (mid : W) (so_far : BooksSoFar seen (locate ∷ left) mid) where
    one_more : (b : Bool) → wanted locate ≡ b → filter wanted (seen ++ locate ∷ []) ≡ filter wanted seen ++ cond b (locate ∷ []) []
    one_more b is = filter-append wanted seen (locate ∷ []) ∙ ap (λ w. filter wanted seen ++ cond w (locate ∷ []) []) is

    seen_on : keys ≡ (seen ++ locate ∷ []) ++ left
    seen_on = so_far.locates ∙ sym (append_assoc seen (locate ∷ []) left)

    -- a locate that is not requested
    pub book_passed : wanted locate ≡ false → BooksSoFar (seen ++ locate ∷ []) left mid
    book_passed out = record {
      locates = seen_on;
      wrote = subst (λ ls. WritesText contents failures (head ++ flat_map lines ls) old (Ok tt) mid) (sym (one_more false out ∙ append-nil (filter wanted seen))) so_far.wrote;
    }

    -- one that is requested
    pub book_written : (new : W) → wanted locate ≡ true → WritesText contents failures (lines locate) mid (Ok tt) new → BooksSoFar (seen ++ locate ∷ []) left new
    book_written new in_set written = record {
      locates = seen_on;
      wrote = subst (λ text. WritesText contents failures text old (Ok tt) new)
          (flat_map_more lines head (filter wanted seen) locate ∙ ap (λ ls. head ++ flat_map lines ls) (sym (one_more true in_set)))
          (text_then contents failures (head ++ flat_map lines (filter wanted seen)) (lines locate) old mid new (Ok tt) so_far.wrote written);
    }

    -- a write failed within its book
    pub book_fails : (new : W) (fault : ToolFault) → wanted locate ≡ true → WritesText contents failures (lines locate) mid (Err fault) new
        → WritesText contents failures (head ++ flat_map lines (filter wanted keys)) old (Err fault) new
    book_fails new fault in_set written =
        let rest : List ℕ = flat_map lines (filter wanted left) in
        let parts : filter wanted keys ≡ filter wanted seen ++ (locate ∷ filter wanted left) =
        ap (filter wanted) so_far.locates ∙ filter-append wanted seen (locate ∷ left)
        ∙ ap (λ b. filter wanted seen ++ cond b (locate ∷ filter wanted left) (filter wanted left)) in_set in
        let whole : head ++ flat_map lines (filter wanted keys) ≡ (head ++ flat_map lines (filter wanted seen)) ++ (lines locate ++ rest) =
        ap (λ ls. head ++ flat_map lines ls) parts
        ∙ ap (λ text. head ++ text) (flat_map-append lines (filter wanted seen) (locate ∷ filter wanted left))
        ∙ sym (append_assoc head (flat_map lines (filter wanted seen)) (lines locate ++ rest)) in
        subst (λ text. WritesText contents failures text old (Err fault) new) (sym whole)
        (text_then contents failures (head ++ flat_map lines (filter wanted seen)) (lines locate ++ rest) old mid new (Err fault) so_far.wrote
        (text_fails contents failures (lines locate) rest mid new fault written))

  pub books_end : (seen left : List ℕ) (new : W) → BooksSoFar seen left new → left ≡ []
      → WritesText contents failures (head ++ flat_map lines (filter wanted keys)) old (Ok tt) new
  books_end seen left new so_far none =
      let all : keys ≡ seen = so_far.locates ∙ ap (λ ls. seen ++ ls) none ∙ append-nil seen in
      subst (λ ls. WritesText contents failures (head ++ flat_map lines (filter wanted ls)) old (Ok tt) new) (sym all) so_far.wrote
