-- The lines of the followed stock, from the market of the stock.
use Rattle.std.proofs.Common.{◌≡◌, ℕ, [], Option, None, Some, option_map, refl, sym, ap, ◌∙◌}
use Rattle.std.specs.FinMap as finite
use Rattle.itch_codec.specs.Text.{before_spaces}
use Rattle.itch_book.proofs.Lists.{found_passes}
use Rattle.itch_market.specs.Content.{Content, Listing}
use Rattle.itch_depth.specs.Changes.{Sides, best_at, change_line, followed, is_stock, lines_at, lines_of, listed_lines}
use Rattle.itch_depth.specs.Following.{IsFollowing}
use Rattle.itch_depth.specs.Own.{IsOwn, own_stock, stock_at}
use Rattle.itch_depth.specs.declared.changes.request.ChangesRequest.{ChangesRequest}
use Rattle.itch_depth.proofs.FollowedStocks.{by_stock}

module _ (R : ChangesRequest) (m own : Content) (locate : Option ℕ) (shown : Sides) (follow : IsFollowing R m own locate shown) (number time : ℕ) where
  -- without a locate there are none
  pub no_lines : locate ≡ None → lines_of R number time m ≡ []
  no_lines none = ap (lines_at R number time m) (sym follow.place ∙ none)

  module _ (l : ℕ) (at : locate ≡ Some l) where
    there : followed R.stock m ≡ Some l
    there = sym follow.place ∙ at

    same_stock : stock_at own l ≡ stock_at m l
    same_stock =
        IsOwn.listed follow.own_market l
        ∙ ap (λ b. own_stock b (stock_at m l)) (sym (by_stock R.stock m l) ∙ found_passes (is_stock R.stock m.securities) (finite.keys m.securities) l there)

    lines_there : lines_of R number time m ≡ listed_lines R number time l shown (finite.get m.securities l)
    lines_there =
        ap (lines_at R number time m) there
        ∙ ap (λ sides. listed_lines R number time l sides (finite.get m.securities l)) (sym (follow.sides ∙ ap (best_at R.depth m.orders) there))

    by_listing : (o p : Option Listing) → option_map (λ (s : Listing). s.entry.stock) p ≡ option_map (λ (s : Listing). s.entry.stock) o
        → listed_lines R number time l shown o ≡ listed_lines R number time l shown p
    by_listing None None is = refl
    by_listing None (Some t) is = absurd (cc is)
    by_listing (Some s) None is = absurd (cc is)
    by_listing (Some s) (Some t) is =
        let same : t.entry.stock ≡ s.entry.stock = cc in
        ap (λ stock. change_line R.form R.depth number time l (before_spaces stock) shown) (sym same)

    -- those of the listing in the market of the stock
    pub own_lines : lines_of R number time m ≡ listed_lines R number time l shown (finite.get own.securities l)
    own_lines = lines_there ∙ by_listing (finite.get m.securities l) (finite.get own.securities l) same_stock
