-- Payloads as they are read if only some locates are wanted.
use mathlib.Core.Path.{fun_ext}
use Rattle.std.proofs.Common.{◌≡◌, ℕ, Bool, true, false, cond, List, map, None, Ok, sym, ap, ◌∙◌, subst, arith}
use Rattle.std.specs.List.{AllByRecursion}
use Rattle.std.specs.Option.{option_map}
use Rattle.itch_book.proofs.Lists.{by_test, All-weaker_rec, All-map_rec}
use Rattle.itch_codec.specs.Messages.{fault, message_of, spelling}
use Rattle.itch_codec.specs.Widths.{IsMessage}
use Rattle.itch_codec.proofs.Spelling.{message_of-spelling, fault-spelling, spelling_size}
use Rattle.itch_frame.specs.Blocks.{IsFull}
use Rattle.itch_market.specs.Content.{Content, laid}
use Rattle.itch_market.specs.Effects.{effect}
use Rattle.itch_market.specs.Reasons.{reason}
use Rattle.itch_market.specs.Replays.{Fits, TakesOne}
use Rattle.itch_market.specs.Stops.{cause_by}
use Rattle.itch_market.specs.declared.stop.Stop.TheVariants as stop
use Rattle.itch_snapshot.specs.TakenMessages.{number_in, number_by, closing_number, is_skipped}
use Rattle.itch_snapshot.proofs.SkippedMessages.{skipped_number, none_skipped}
use Rattle.itch_snapshot.specs.AsRead.{idle, as_read, read_by}

pub idle_fits : IsMessage idle
idle_fits = record { header = record { locate = omega arith; tracking = omega arith; stamp = omega arith }; match_number = omega arith }

pub idle_clean : fault (spelling idle) ≡ None
idle_clean = fault-spelling idle idle_fits

pub idle_read : message_of (spelling idle) ≡ idle
idle_read = message_of-spelling idle idle_fits

pub idle_fitting : Fits (spelling idle)
idle_fitting = subst IsMessage (sym idle_read) idle_fits

idle_full : IsFull (spelling idle)
idle_full = spelling_size idle idle_fits (λ kept. kept)

idle_number : closing_number (spelling idle) ≡ None
idle_number = ap (λ f. number_by f (spelling idle)) idle_clean ∙ ap number_in idle_read

pub idle_taken : (m n : Content) → n ≡ m → TakesOne m (spelling idle) (Ok tt) (laid n)
idle_taken m n same = (
  ap (λ f. cause_by f m (spelling idle)) idle_clean ∙ ap (λ x. option_map stop.Rule (reason m x)) idle_read,
  idle_fitting,
  ap laid (same ∙ sym (ap (effect m) idle_read)),
)

module _ (wanted : ℕ → Bool) where
  pub read_skipped : (p : List ℕ) → is_skipped wanted p ≡ true → as_read wanted p ≡ spelling idle
  read_skipped p skip = ap (λ b. cond b (spelling idle) p) skip

  pub read_stays : (p : List ℕ) → is_skipped wanted p ≡ false → as_read wanted p ≡ p
  read_stays p stays = ap (λ b. cond b (spelling idle) p) stays

  pub read_full : (p : List ℕ) → IsFull p → IsFull (as_read wanted p)
  read_full p full =
      by_test (is_skipped wanted p) (λ skip. subst IsFull (sym (read_skipped p skip)) idle_full) (λ stays. subst IsFull (sym (read_stays p stays)) full)

  pub all_full : (ps : List (List ℕ)) → AllByRecursion IsFull ps → AllByRecursion IsFull (map (as_read wanted) ps)
  all_full ps full = All-map_rec IsFull (as_read wanted) ps (All-weaker_rec IsFull (λ p. IsFull (as_read wanted p)) read_full ps full)

  -- End of Snapshot is read unchanged
  pub read_number : (p : List ℕ) → closing_number (as_read wanted p) ≡ closing_number p
  read_number p =
      by_test (is_skipped wanted p)
      (λ skip. ap closing_number (read_skipped p skip) ∙ idle_number ∙ sym (skipped_number wanted p skip))
      (λ stays. ap closing_number (read_stays p stays))

-- if all locates are wanted, each payload is read unchanged
pub all_as_is : (wanted : ℕ → Bool) → ((l : ℕ) → wanted l ≡ true) → as_read wanted ≡ read_by None
all_as_is wanted all = fun_ext (λ p. read_stays wanted p (none_skipped wanted all p))
