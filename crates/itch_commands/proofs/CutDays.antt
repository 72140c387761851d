-- Messages that are cut to the locates of a set follow the order rules if all of them do, and leave the market of these locates.
use Rattle.std.proofs.Common.{◌≡◌, ℕ, ◌⊎◌, ◌&&◌, Bool, true, false, not, List, [], ◌∷◌, map, filter, inl, inr, refl, sym, ap, subst, ◌∙◌, if◌then◌else◌}
use Rattle.itch_book.proofs.Lists.{by_test}
use Rattle.itch_codec.specs.Messages.{message_of}
use Rattle.itch_codec.specs.declared.message.Message.{Message}
use Rattle.itch_codec.specs.declared.message.Message.TheVariants as is
use Rattle.itch_market.specs.Content.{Content, empty}
use Rattle.itch_market.specs.Effects.{effect}
use Rattle.itch_market.specs.Partial.{kept, only, skips}
use Rattle.itch_market.specs.Runs.{AreMessages, Follows, FollowsFrom, after, run}
use Rattle.itch_market.specs.Wanted.{Wanted, has}
use Rattle.itch_market.proofs.Partials.{kept_follows, kept_leaves}
use Rattle.itch_commands.specs.Cuts.{is_kept, kept_of, of_locates}

module _ (set : Wanted) where
  abbrev keeps : Message → Bool
  keeps x = is_kept (of_locates set) x

  -- the messages that a market restricted to the set takes
  abbrev takes : Message → Bool
  takes x = not (skips (has set) x)

  messages_kept : (ps : List (List ℕ)) → map message_of (kept_of (of_locates set) ps) ≡ filter keeps (map message_of ps)
  unfolding kept_of
  messages_kept [] = refl
  messages_kept (p ∷ ps) =
      let x : Message = message_of p in
      let rest : List (List ℕ) = kept_of (of_locates set) ps in
      let others : List Message = filter keeps (map message_of ps) in
      by_test (keeps x)
      (λ is. ap (λ b. map message_of (if b then p ∷ rest else rest)) is ∙ ap (λ ms. x ∷ ms) (messages_kept ps) ∙ sym (ap (λ b. if b then x ∷ others else others) is))
      (λ is. ap (λ b. map message_of (if b then p ∷ rest else rest)) is ∙ messages_kept ps ∙ sym (ap (λ b. if b then x ∷ others else others) is))

  at_locate : (b : Bool) → (true && (b && true) && true && true) ≡ not (not b)
  at_locate true = refl
  at_locate false = refl

  -- `cut` keeps the messages that the market takes, except those without an effect
  abbrev IsAlike : Message → Type 0
  IsAlike x = (keeps x ≡ takes x) ⊎ ((takes x ≡ true) × ((m : Content) → effect m x ≡ m))

  alike : (x : Message) → IsAlike x
  alike (is.SystemEvent m) = inl refl
  alike (is.StockDirectory m) = inl (at_locate (has set m.header.locate))
  alike (is.TradingAction m) = inl (at_locate (has set m.header.locate))
  alike (is.RegSho m) = inl (at_locate (has set m.header.locate))
  alike (is.Halt m) = inl (at_locate (has set m.header.locate))
  alike (is.Position m) = inl (at_locate (has set m.header.locate))
  alike (is.AddOrder m) = inl (at_locate (has set m.header.locate))
  alike (is.AttributedAddOrder m) = inl (at_locate (has set m.order.header.locate))
  alike (is.OrderExecuted m) = inl (at_locate (has set m.header.locate))
  alike (is.OrderExecutedWithPrice m) = inl (at_locate (has set m.execution.header.locate))
  alike (is.OrderCancel m) = inl (at_locate (has set m.header.locate))
  alike (is.OrderDelete m) = inl (at_locate (has set m.header.locate))
  alike (is.OrderReplace m) = inl (at_locate (has set m.header.locate))
  alike (is.Trade m) = inr (refl, λ m. refl)
  alike (is.CrossTrade m) = inr (refl, λ m. refl)
  alike (is.BrokenTrade m) = inr (refl, λ m. refl)
  alike (is.End next) = inl refl
  alike (is.Other payload) = inl refl

  -- from a market, the first messages follow the rules and have the same effect as the others
  abbrev Leads : Content → List Message → List Message → Type 0
  Leads m xs ys = FollowsFrom m xs × (after m xs ≡ after m ys)

  module _ (x : Message) (xs ys : List Message) (m : Content) (rest : (n : Content) → FollowsFrom n ys → Leads n xs ys) where
    both : (b : Bool) → FollowsFrom m (if b then x ∷ ys else ys) → Leads m (if b then x ∷ xs else xs) (if b then x ∷ ys else ys)
    both true (none, follows) = let later = rest (effect m x) follows in ((none, later.0), later.1)
    both false follows = rest m follows

    without : (b : Bool) → effect m x ≡ m → FollowsFrom m (x ∷ ys) → Leads m (if b then x ∷ xs else xs) (x ∷ ys)
    without true same follows = both true follows
    without false same (none, follows) =
        let later = rest m (subst (λ n. FollowsFrom n ys) same follows) in (later.0, later.1 ∙ sym (ap (λ n. after n ys) same))

    one_more : IsAlike x → FollowsFrom m (if takes x then x ∷ ys else ys) → Leads m (if keeps x then x ∷ xs else xs) (if takes x then x ∷ ys else ys)
    one_more (inl same) follows = subst (λ b. Leads m (if b then x ∷ xs else xs) (if takes x then x ∷ ys else ys)) (sym same) (both (takes x) follows)
    one_more (inr (taken, idle)) follows =
        let here : FollowsFrom m (x ∷ ys) = subst (λ b. FollowsFrom m (if b then x ∷ ys else ys)) taken follows in
        subst (λ b. Leads m (if keeps x then x ∷ xs else xs) (if b then x ∷ ys else ys)) (sym taken) (without (keeps x) (idle m) here)

  leads : (xs : List Message) (m : Content) → FollowsFrom m (filter takes xs) → Leads m (filter keeps xs) (filter takes xs)
  leads [] m follows = (follows, refl)
  leads (x ∷ xs) m follows = one_more x (filter keeps xs) (filter takes xs) m (leads xs) (alike x) follows

  module _ (ps : List (List ℕ)) (messages : AreMessages (map message_of ps)) (follows : Follows (map message_of ps)) where
    led : Leads empty (filter keeps (map message_of ps)) (kept (has set) (map message_of ps))
    led = leads (map message_of ps) empty (kept_follows (has set) (map message_of ps) messages follows)

    pub cut_follows : Follows (map message_of (kept_of (of_locates set) ps))
    cut_follows = subst Follows (sym (messages_kept ps)) led.0

    pub cut_leaves : run (map message_of (kept_of (of_locates set) ps)) ≡ only (has set) (run (map message_of ps))
    cut_leaves = ap run (messages_kept ps) ∙ led.1 ∙ kept_leaves (has set) (map message_of ps) messages follows
