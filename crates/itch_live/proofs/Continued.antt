-- A record to which one process after another appends.
use Rattle.std.proofs.Common.{◌≡◌, ℕ, ◌+◌, ◌-◌, ◌<◌, ◌≤◌, List, ◌++◌, take, drop, Option, None, Some, sym, ap, subst, ◌∙◌, arith}
use Rattle.std.specs.List.{AllByRecursion}
use Rattle.std.specs.Io.KnownBytes.{Appends}
use Rattle.std.proofs.lemmas.List.{take-append-drop, take-take, drop-take}
use Rattle.itch_codec.specs.Fields.{AreBytes}
use Rattle.itch_frame.specs.Blocks.{blocks}
use Rattle.itch_frame.specs.declared.tally.Failures.{Failures}
use Rattle.itch_frame.proofs.BlockLemmas.{blocks-append}
use Rattle.itch_market.specs.Wanted.{Wanted, has}
use Rattle.itch_join.specs.Positions.{Position}
use Rattle.itch_join.specs.Rules.{rules_of}
use Rattle.itch_live.specs.Follows.{Following}
use Rattle.itch_live.specs.Feeds.{Did, IsJoining, Followed}
use Rattle.itch_live.specs.Records.{IsOneRecord, first_recorded, between, RecordsUpTo}
use Rattle.itch_live.proofs.Recorded.{all_recorded}

-- the first messages, and those after them
take_on : (feed : List (List ℕ)) (n m : ℕ) → take n feed ++ take m (drop n feed) ≡ take (n + m) feed
take_on feed n m =
    let less : n ≤ n + m = omega arith in
    ap (λ xs. xs ++ take m (drop n feed)) (sym (take-take n (n + m) feed less))
    ∙ ap (λ xs. take n (take (n + m) feed) ++ xs) (sym (drop-take n m feed)) ∙ take-append-drop n (take (n + m) feed)

both : (feed : List (List ℕ)) (first next : ℕ) → 0 < first → first ≤ next → blocks (take (first - 1) feed) ++ blocks (between first next feed) ≡ blocks (take (next - 1) feed)
both feed first next positive up =
    let whole : (first - 1) + (next - first) ≡ next - 1 = omega arith in
    sym (blocks-append (take (first - 1) feed) (between first next feed)) ∙ ap blocks (take_on feed (first - 1) (next - first) ∙ ap (λ n. take n feed) whole)

appended : (old new : Option (List ℕ)) (xs bs : List ℕ) → old ≡ Some xs → Appends old new bs → new ≡ Some (xs ++ bs)
appended old new xs bs is appends = by_new new (subst (λ o. Appends o new bs) is appends) where
  by_new : (o : Option (List ℕ)) → Appends (Some xs) o bs → o ≡ Some (xs ++ bs)
  by_new None never = absurd never
  by_new (Some ys) same = ap Some same

module _ {W : Type 0} (contents : W → Option (List ℕ)) (failures : W → Failures) where
  pub goes_on : (set : Wanted) (feed : List (List ℕ)) (begun : Following) (past : List (Did W)) (f : Following) (i j : Position) (record_begun record_now : W) → AllByRecursion AreBytes feed
      → IsJoining set 0 feed begun → begun.joining.state.joined ≡ Some i → contents record_begun ≡ Some (blocks (take (i.next - 1) feed))
      → Followed contents failures (rules_of (has set)) feed begun past f → IsOneRecord record_begun past record_now → f.joining.state.joined ≡ Some j
      → contents record_now ≡ Some (blocks (take (j.next - 1) feed))
  goes_on set feed begun past f i j record_begun record_now bytes joining there has_all followed one now =
      by_record (subst (λ o. RecordsUpTo contents feed (first_recorded {W = W} o past) record_begun record_now (Some j)) there
      (subst (RecordsUpTo contents feed (first_recorded {W = W} begun.joining.state.joined past) record_begun record_now) now
      (all_recorded contents failures set feed bytes begun record_begun joining past f record_now followed one))) where
        by_record : RecordsUpTo contents feed (Some i.next) record_begun record_now (Some j) → contents record_now ≡ Some (blocks (take (j.next - 1) feed))
        by_record (number, is, positive, up, appends) =
            let same : i.next ≡ number = one_number is in
            appended (contents record_begun) (contents record_now) (blocks (take (i.next - 1) feed)) (blocks (between number j.next feed)) has_all appends
            ∙ ap Some (ap (λ n. blocks (take (n - 1) feed) ++ blocks (between number j.next feed)) same ∙ both feed number j.next positive up) where
              one_number : {m n : ℕ} → Some m ≡ Some n → m ≡ n
              one_number {m} {n} h = cc
