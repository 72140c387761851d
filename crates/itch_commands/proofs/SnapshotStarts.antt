-- The state of a joiner that has read a snapshot.
use Rattle.std.proofs.Common.{◌≡◌, ℕ, List, map, Option, Ok, Some, refl, sym, subst}
use Rattle.std.specs.Ordering.{nat_cmp}
use Rattle.std.specs.FinMap as finite
use Rattle.itch_book.proofs.Lists.{All-map_rec}
use Rattle.itch_codec.specs.Messages.{message_of, Spells}
use Rattle.itch_codec.specs.Widths.{IsMessage, IsSequence}
use Rattle.itch_codec.specs.declared.message.Message.TheVariants as is
use Rattle.itch_market.specs.Content.{Content, empty, laid}
use Rattle.itch_market.specs.GoodMarkets.{IsGood}
use Rattle.itch_market.specs.Runs.{run}
use Rattle.itch_market.proofs.Causes.{none_follows}
use Rattle.itch_market.proofs.GoodMarkets.{laid_good, run_good}
use Rattle.itch_market.proofs.LaidMarkets.{laid_twice}
use Rattle.itch_snapshot.specs.AsRead.{ReadsAs}
use Rattle.itch_snapshot.proofs.FileLemmas.{Spells-number}
use Rattle.itch_join.specs.States.{State, new}
use Rattle.itch_join.specs.Takings.{IsJoined, position_of}
use Rattle.itch_commands.specs.Joiners.{IsStart, start_of}
use Rattle.itch_commands.specs.Joining.{Start}

-- it has joined there
pub joined_at : (now : State) (start : Start) → now ≡ record new { joined = Some (record { next = start.1; market = start.0 }) } → IsJoined now × (start_of (position_of now) ≡ start)
joined_at now start is =
    subst (λ s. IsJoined s × (start_of (position_of s) ≡ start)) (sym is) (record { waits = λ i. finite.get-empty nat_cmp i; joined = refl; running = refl }, refl)

-- a snapshot that was read has a market and a number
pub is_start : (read : List ℕ → List ℕ) (before later : Option (List ℕ)) (next : ℕ) (n : Content) → ReadsAs read before later (Ok next) n → IsStart (n, next)
is_start read before later next n (ps, mid, takes, few, (payload, off, closes)) =
    let qs = map read ps in
    let good : IsGood (run (map message_of qs)) = run_good (map message_of qs) (All-map_rec IsMessage message_of qs takes.fits) (none_follows empty qs takes.none) in
    record {
      good = subst IsGood (sym takes.left) (laid_good (run (map message_of qs)) good);
      in_order = subst (λ m. laid m ≡ m) (sym takes.left) (laid_twice (run (map message_of qs)));
      number = number_fits payload next (Spells-number payload next closes);
    } where
      number_fits : (p : List ℕ) (number : ℕ) → Spells (is.End number) p → IsSequence number
      number_fits p number spells =
          let field = spells.fields.0 in
          record { low = field.1; high = field.0.3.bounded }
