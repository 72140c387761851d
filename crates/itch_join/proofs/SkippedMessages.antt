-- The rules if only some locates are wanted, for messages that are skipped and for the others.
use mathlib.Core.Path.{fun_ext}
use Rattle.std.proofs.Common.{◌≡◌, ℕ, Bool, true, false, cond, List, None, ap}
use Rattle.itch_market.specs.Content.{Content}
use Rattle.itch_snapshot.specs.TakenMessages.{closing_number, is_skipped}
use Rattle.itch_snapshot.proofs.SkippedMessages.{none_skipped}
use Rattle.itch_join.specs.Rules.{Rules, market_rules, rules_of}

module _ (wanted : ℕ → Bool) where
  -- the rules of markets apply to a message that is not skipped
  pub refused_here : (m : Content) (p : List ℕ) → is_skipped wanted p ≡ false → Rules.refused (rules_of wanted) m p ≡ Rules.refused market_rules m p
  refused_here m p stays = ap (λ b. cond b None (Rules.refused market_rules m p)) stays

  pub effect_here : (m : Content) (p : List ℕ) → is_skipped wanted p ≡ false → Rules.effect (rules_of wanted) m p ≡ Rules.effect market_rules m p
  effect_here m p stays = ap (λ b. cond b m (Rules.effect market_rules m p)) stays

  pub memory_here : (m : Content) (p : List ℕ) → is_skipped wanted p ≡ false → Rules.takes_memory (rules_of wanted) m p ≡ Rules.takes_memory market_rules m p
  memory_here m p stays = ap (λ b. cond b false (Rules.takes_memory market_rules m p)) stays

  -- no rules apply to a skipped message
  pub refused_skipped : (m : Content) (p : List ℕ) → is_skipped wanted p ≡ true → Rules.refused (rules_of wanted) m p ≡ None
  refused_skipped m p skip = ap (λ b. cond b None (Rules.refused market_rules m p)) skip

  pub effect_skipped : (m : Content) (p : List ℕ) → is_skipped wanted p ≡ true → Rules.effect (rules_of wanted) m p ≡ m
  effect_skipped m p skip = ap (λ b. cond b m (Rules.effect market_rules m p)) skip

  -- if all locates are wanted, the rules are those of markets
  module _ (all : (l : ℕ) → wanted l ≡ true) where
    same_refused : Rules.refused (rules_of wanted) ≡ Rules.refused market_rules
    same_refused = fun_ext (λ m. fun_ext (λ p. refused_here m p (none_skipped wanted all p)))

    same_effect : Rules.effect (rules_of wanted) ≡ Rules.effect market_rules
    same_effect = fun_ext (λ m. fun_ext (λ p. effect_here m p (none_skipped wanted all p)))

    same_memory : Rules.takes_memory (rules_of wanted) ≡ Rules.takes_memory market_rules
    same_memory = fun_ext (λ m. fun_ext (λ p. memory_here m p (none_skipped wanted all p)))

    pub all_rules : rules_of wanted ≡ market_rules
    all_rules = λ i. record { refused = same_refused i; effect = same_effect i; takes_memory = same_memory i; end_number = closing_number }
