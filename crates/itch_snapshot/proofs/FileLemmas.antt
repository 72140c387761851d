-- Snapshot files: each has one list of messages and one number, and none of the faults.
use Rattle.std.proofs.Common.{◌≡◌, ℕ, ◌-◌, ◌<◌, ◌≤◌, ◌^◌, ◌⊎◌, zero, suc, List, [], ◌∷◌, ◌++◌, map, length, slice_get, Option, None, Some, IfSome, refl, sym, ap, subst, ◌∙◌, inl, inr, arith, append_assoc}
use Rattle.std.specs.Option.{option_map}
use Rattle.std.specs.List.{AllByRecursion}
use Rattle.std.proofs.lemmas.Bool.{cases_lt}
use Rattle.std.proofs.lemmas.List.{length-map}
use Rattle.itch_codec.specs.declared.fault.CodecFault.{CodecFault}
use Rattle.itch_codec.specs.declared.message.Message.{Message}
use Rattle.itch_codec.specs.declared.message.Message.TheVariants as is
use Rattle.itch_codec.specs.Messages.{fault, message_of, Spells}
use Rattle.itch_codec.proofs.Spelling.{fault-Spells, message_of-Spells, Spells-message_of}
use Rattle.itch_frame.specs.Blocks.{IsPayload, IsFull, block, blocks, Ends, Open, Day}
use Rattle.itch_frame.specs.declared.fault.FrameFault.TheVariants.{Read, Truncated, Write, TooLong}
use Rattle.itch_frame.proofs.BlockLemmas.{same_block, blocks-push, each-push}
use Rattle.itch_frame.proofs.Days.{day_one, day_some, day_on, day_last, front_of_day, end_once}
use Rattle.itch_market.specs.Content.{Content, empty}
use Rattle.itch_market.specs.Reasons.{reason}
use Rattle.itch_market.specs.Effects.{effect}
use Rattle.itch_market.specs.Runs.{after, FollowsFrom}
use Rattle.itch_market.specs.declared.refusal.Refusal.TheVariants.{UnexpectedEnd}
use Rattle.itch_market.specs.declared.stop.Stop.{Stop}
use Rattle.itch_market.specs.declared.stop.Stop.TheVariants as stop
use Rattle.itch_market.specs.Stops.{cause_by, cause, Stops}
use Rattle.itch_market.specs.Replays.{NoCause}
use Rattle.itch_market.proofs.ReplayStops.{one_stops, full_stops}
use Rattle.itch_market.proofs.OneStop.{stops_place, stops_reason}
use Rattle.itch_snapshot.specs.declared.fault.SnapFault.{SnapFault}
use Rattle.itch_snapshot.specs.declared.fault.SnapFault.TheVariants.{NoEnd, Frame, Codec, Rule, AfterEnd, TooManyMessages}
use Rattle.itch_snapshot.specs.TakenMessages.{number_in, number_by, closing_number}
use Rattle.itch_snapshot.specs.Files.{AreSpelled, ClosesBefore, IsClosedBefore, StopsAt, IsFaultOf}

-- the only message with a closing number
end_of_number : (x : Message) (next : ℕ) → number_in x ≡ Some next → x ≡ is.End next
end_of_number (is.SystemEvent m) next h = cc
end_of_number (is.StockDirectory m) next h = cc
end_of_number (is.TradingAction m) next h = cc
end_of_number (is.RegSho m) next h = cc
end_of_number (is.Halt m) next h = cc
end_of_number (is.Position m) next h = cc
end_of_number (is.AddOrder m) next h = cc
end_of_number (is.AttributedAddOrder m) next h = cc
end_of_number (is.OrderExecuted m) next h = cc
end_of_number (is.OrderExecutedWithPrice m) next h = cc
end_of_number (is.OrderCancel m) next h = cc
end_of_number (is.OrderDelete m) next h = cc
end_of_number (is.OrderReplace m) next h = cc
end_of_number (is.Trade m) next h = cc
end_of_number (is.CrossTrade m) next h = cc
end_of_number (is.BrokenTrade m) next h = cc
end_of_number (is.End n) next h = cc
end_of_number (is.Other bytes) next h = cc

-- is refused in every market
pub unrefused_number : (m : Content) (x : Message) → reason m x ≡ None → number_in x ≡ None
unrefused_number m x none = by_number (number_in x) refl where
  by_number : (n : Option ℕ) → number_in x ≡ n → number_in x ≡ None
  by_number None is_none = is_none
  by_number (Some next) is_next = let refused : Some UnexpectedEnd ≡ None = sym (ap (reason m) (end_of_number x next is_next)) ∙ none in cc

-- a payload has the closing number of its message
number-Spells : (x : Message) (p : List ℕ) → Spells x p → closing_number p ≡ number_in x
number-Spells x p spells = ap (λ f. number_by f p) (fault-Spells x p spells) ∙ ap number_in (sym (message_of-Spells x p spells))

pub Spells-number : (p : List ℕ) (next : ℕ) → closing_number p ≡ Some next → Spells (is.End next) p
Spells-number p next closes = by_fault (fault p) refl closes where
  by_fault : (f : Option CodecFault) → fault p ≡ f → number_by f p ≡ Some next → Spells (is.End next) p
  by_fault (Some f) is number = absurd (let no_one : ⊥ = cc in no_one)
  by_fault None is number = subst (λ x. Spells x p) (end_of_number (message_of p) next number) (Spells-message_of p is)

-- a payload without a fault is not empty
some_bytes : (p : List ℕ) → fault p ≡ None → 0 < length p
some_bytes [] clean = absurd (let no_one : ⊥ = cc in no_one)
some_bytes (x ∷ p) clean = omega arith

end_full : (next : ℕ) (p : List ℕ) → Spells (is.End next) p → IsFull p
end_full next p spells = let size : length p ≡ 21 = spells.size in (omega arith, omega arith)

-- the messages are those of their payloads
pub spelled_is : (ms : List Message) (ps : List (List ℕ)) → AreSpelled ms ps → ms ≡ map message_of ps
spelled_is [] [] spelled = refl
spelled_is [] (p ∷ ps) spelled = absurd spelled
spelled_is (x ∷ xs) [] spelled = absurd spelled
spelled_is (x ∷ xs) (p ∷ ps) spelled = λ i. message_of-Spells x p spelled.0 i ∷ spelled_is xs ps spelled.1 i

spelled_full : (ms : List Message) (ps : List (List ℕ)) → AreSpelled ms ps → AllByRecursion IsPayload ps → AllByRecursion IsFull ps
spelled_full [] [] spelled fit = tt
spelled_full [] (p ∷ ps) spelled fit = absurd spelled
spelled_full (x ∷ xs) [] spelled fit = absurd spelled
spelled_full (x ∷ xs) (p ∷ ps) spelled fit = ((some_bytes p (fault-Spells x p spelled.0), fit.0), spelled_full xs ps spelled.1 fit.1)

-- payloads whose messages follow the order rules are all taken
pub spelled_none : (m : Content) (ms : List Message) (ps : List (List ℕ)) → AreSpelled ms ps → FollowsFrom m ms → NoCause m ps
spelled_none m [] [] spelled follows k within = absurd (omega arith)
spelled_none m [] (p ∷ ps) spelled follows k within = absurd spelled
spelled_none m (x ∷ xs) [] spelled follows k within = absurd spelled
spelled_none m (x ∷ xs) (p ∷ ps) spelled follows zero within =
    ap (λ f. cause_by f m p) (fault-Spells x p spelled.0) ∙ ap (option_map stop.Rule) (ap (reason m) (sym (message_of-Spells x p spelled.0)) ∙ follows.0)
spelled_none m (x ∷ xs) (p ∷ ps) spelled follows (suc k) within =
    spelled_none (effect m (message_of p)) xs ps spelled.1 (subst (λ y. FollowsFrom (effect m y) xs) (message_of-Spells x p spelled.0) follows.1) k (omega arith)

-- and no payload is an End of Snapshot
no_end_spelled : (m : Content) (ms : List Message) (ps : List (List ℕ)) → AreSpelled ms ps → FollowsFrom m ms → AllByRecursion (λ p. closing_number p ≡ None) ps
no_end_spelled m [] [] spelled follows = tt
no_end_spelled m [] (p ∷ ps) spelled follows = absurd spelled
no_end_spelled m (x ∷ xs) [] spelled follows = absurd spelled
no_end_spelled m (x ∷ xs) (p ∷ ps) spelled follows =
    (number-Spells x p spelled.0 ∙ unrefused_number m x follows.0, no_end_spelled (effect m x) xs ps spelled.1 follows.1)

-- the first End of Snapshot is unique
record SameEnd (ps qs : List (List ℕ)) (p q r s : List ℕ) : Type 0 where
  before : ps ≡ qs
  there : p ≡ q
  following : r ≡ s

no_end_first : (p q : List ℕ) (next : ℕ) → closing_number p ≡ Some next → closing_number q ≡ None → p ≡ q → ⊥
no_end_first p q next closes none same = let clash : Some next ≡ None = sym closes ∙ ap closing_number same ∙ none in let no_one : ⊥ = cc in no_one

one_end : (ps qs : List (List ℕ)) (p q r s : List ℕ) (n k : ℕ) → blocks ps ++ (block p ++ r) ≡ blocks qs ++ (block q ++ s)
    → AllByRecursion IsPayload ps → AllByRecursion IsPayload qs → IsPayload p → IsPayload q
    → AllByRecursion (λ p. closing_number p ≡ None) ps → AllByRecursion (λ p. closing_number p ≡ None) qs → closing_number p ≡ Some n → closing_number q ≡ Some k
    → SameEnd ps qs p q r s
one_end [] [] p q r s n k same fit fine small short none no_one closes ends =
    let first = same_block p q r s small short same in record { before = refl; there = first.0; following = first.1 }
one_end [] (y ∷ qs) p q r s n k same fit fine small short none no_one closes ends =
    let first = same_block p y r (blocks qs ++ (block q ++ s)) small fine.0 (same ∙ append_assoc (block y) (blocks qs) (block q ++ s)) in
    absurd (no_end_first p y n closes no_one.0 first.0)
one_end (x ∷ ps) [] p q r s n k same fit fine small short none no_one closes ends =
    let first = same_block x q (blocks ps ++ (block p ++ r)) s fit.0 short (sym (append_assoc (block x) (blocks ps) (block p ++ r)) ∙ same) in
    absurd (no_end_first q x k ends none.0 (sym first.0))
one_end (x ∷ ps) (y ∷ qs) p q r s n k same fit fine small short none no_one closes ends =
    let first = same_block x y (blocks ps ++ (block p ++ r)) (blocks qs ++ (block q ++ s)) fit.0 fine.0
    (sym (append_assoc (block x) (blocks ps) (block p ++ r)) ∙ same ∙ append_assoc (block y) (blocks qs) (block q ++ s)) in
    let rest = one_end ps qs p q r s n k first.1 fit.1 fine.1 small short none.1 no_one.1 closes ends in
    record { before = λ i. first.0 i ∷ rest.before i; there = rest.there; following = rest.following }

-- a file closes in only one way
pub record SameFile (r s : List ℕ) (ms ns : List Message) (n k : ℕ) : Type 0 where
  pub messages : ms ≡ ns
  pub number : n ≡ k
  pub rest : r ≡ s

pub closes_once : (bytes r s : List ℕ) (ms ns : List Message) (n k : ℕ) → ClosesBefore r bytes ms n → ClosesBefore s bytes ns k → SameFile r s ms ns n k
closes_once bytes r s ms ns n k one other =
    let number = number-Spells (is.End n) one.last one.closes in
    let other_number = number-Spells (is.End k) other.last other.closes in
    let same = one_end one.payloads other.payloads one.last other.last r s n k (sym one.whole ∙ other.whole) one.each other.each
    (end_full n one.last one.closes).1 (end_full k other.last other.closes).1
    (no_end_spelled empty ms one.payloads one.spelled one.follows) (no_end_spelled empty ns other.payloads other.spelled other.follows) number other_number in
    let numbers : Some n ≡ Some k = sym number ∙ ap closing_number same.there ∙ other_number in
    record {
      messages = spelled_is ms one.payloads one.spelled ∙ ap (map message_of) same.before ∙ sym (spelled_is ns other.payloads other.spelled);
      number = cc;
      rest = same.following;
    }

-- the payload after k blocks is the one at that position of the day
slice_there : (ps : List (List ℕ)) (p : List ℕ) (more : List (List ℕ)) → slice_get ((ps ++ p ∷ []) ++ more) (length ps) ≡ Some p
slice_there [] p more = refl
slice_there (q ∷ ps) p more = slice_there ps p more

pub at_place : (bytes unread : List ℕ) (ps : List (List ℕ)) (p : List ℕ) (qs : List (List ℕ)) (rest : List ℕ) → bytes ≡ blocks ps ++ (block p ++ unread)
    → AllByRecursion IsFull ps → IsFull p → Day bytes qs rest → slice_get qs (length ps) ≡ Some p
at_place bytes unread ps p qs rest whole full_before full day = found
    (front_of_day (ps ++ p ∷ []) qs bytes unread rest (each-push IsFull ps p full_before full)
    (whole ∙ sym (append_assoc (blocks ps) (block p) unread) ∙ ap (λ front. front ++ unread) (sym (blocks-push ps p))) day)
  where
    found : (more : List (List ℕ)) × (qs ≡ (ps ++ p ∷ []) ++ more) × Day unread more rest → slice_get qs (length ps) ≡ Some p
    found (more, is, following) = ap (λ ds. slice_get ds (length ps)) is ∙ slice_there ps p more

-- a replay of such a file stops at the End of Snapshot, for its reason or as one message too many
abbrev StopsThere : List ℕ → ℕ → Type 0
StopsThere bytes k = Stops empty bytes k (stop.Rule UnexpectedEnd) ⊎ Stops empty bytes k stop.TooManyMessages

module _ (bytes rest : List ℕ) (ms : List Message) (next : ℕ) (file : ClosesBefore rest bytes ms next) where
  full_before : AllByRecursion IsFull file.payloads
  full_before = spelled_full ms file.payloads file.spelled file.each

  none_before : NoCause empty file.payloads
  none_before = spelled_none empty ms file.payloads file.spelled file.follows

  number_there : closing_number file.last ≡ Some next
  number_there = number-Spells (is.End next) file.last file.closes

  refused_there : (m : Content) → cause m file.last ≡ Some (stop.Rule UnexpectedEnd)
  refused_there m =
      ap (λ f. cause_by f m file.last) (fault-Spells (is.End next) file.last file.closes)
      ∙ ap (λ x. option_map stop.Rule (reason m x)) (sym (message_of-Spells (is.End next) file.last file.closes))

  few_payloads : length file.payloads ≤ 10 ^ 19 - 1
  few_payloads = omega (arith, file.few, ap length (spelled_is ms file.payloads file.spelled), length-map file.payloads message_of)

  stops_there : StopsThere bytes (length file.payloads)
  stops_there = elim (cases_lt (length file.payloads) (10 ^ 19 - 1)) [
    | inl room ↦ inl (one_stops empty bytes rest file.payloads file.last (stop.Rule UnexpectedEnd) file.whole full_before (end_full next file.last file.closes) room none_before
        (refused_there (after empty (map message_of file.payloads))))
    | inr late ↦ inr (full_stops empty bytes rest file.payloads file.last file.whole full_before (end_full next file.last file.closes) (let few = few_payloads in omega arith) none_before)
  ]

  -- and nowhere else
  same_place : (k : ℕ) (why : Stop) → Stops empty bytes k why → StopsThere bytes (length file.payloads) → length file.payloads ≡ k
  same_place k why stops (inl here) = stops_place empty bytes (length file.payloads) k (stop.Rule UnexpectedEnd) why here stops
  same_place k why stops (inr here) = stops_place empty bytes (length file.payloads) k stop.TooManyMessages why here stops

  -- if it stops at a message, this is not End of Snapshot
  pub not_refused : (place : ℕ) (why : Stop) → StopsAt bytes place why → ⊥
  not_refused place why at =
      let here : slice_get at.stops.payloads (length file.payloads) ≡ Some file.last =
      at_place bytes rest file.payloads file.last at.stops.payloads at.stops.rest file.whole full_before (end_full next file.last file.closes) at.stops.day in
      let there : slice_get at.stops.payloads at.before ≡ Some file.last = subst (λ k. slice_get at.stops.payloads k ≡ Some file.last) (same_place at.before why at.stops stops_there) here in
      let no_end : closing_number file.last ≡ None = subst (λ o. IfSome o (λ payload. closing_number payload ≡ None)) there at.no_end in
      let clash : Some next ≡ None = sym number_there ∙ no_end in
      let no_one : ⊥ = cc in no_one

  pub not_ended : (k : ℕ) → Stops empty bytes k stop.End → ⊥
  not_ended k stops = elim stops_there [
    | inl here ↦ let clash = stops_reason empty bytes (length file.payloads) k (stop.Rule UnexpectedEnd) stop.End here stops in let no_one : ⊥ = cc in no_one
    | inr here ↦ let clash = stops_reason empty bytes (length file.payloads) k stop.TooManyMessages stop.End here stops in let no_one : ⊥ = cc in no_one
  ]

  pub not_cut : (k held : ℕ) → Stops empty bytes k (stop.Frame (Truncated held)) → ⊥
  not_cut k held stops = elim stops_there [
    | inl here ↦ let clash = stops_reason empty bytes (length file.payloads) k (stop.Rule UnexpectedEnd) (stop.Frame (Truncated held)) here stops in let no_one : ⊥ = cc in no_one
    | inr here ↦ let clash = stops_reason empty bytes (length file.payloads) k stop.TooManyMessages (stop.Frame (Truncated held)) here stops in let no_one : ⊥ = cc in no_one
  ]

  -- the bytes after the End of Snapshot are the rest
  not_following : (P : List ℕ → Type 0) → (P rest → ⊥) → IsClosedBefore bytes P → ⊥
  not_following P never (ns, k, s, other, following) = never (subst P (sym (closes_once bytes rest s ms ns next k file other).rest) following)

  block_ends : (payload more : List ℕ) → Ends rest → IsFull payload → rest ≡ block payload ++ more → ⊥
  block_ends payload more ends full same = found (day_some more) where
    found : (ps : List (List ℕ)) × (r : List ℕ) × Day more ps r → ⊥
    found (ps, r, day) =
        let clash : [] ≡ payload ∷ ps = (day_one rest [] (payload ∷ ps) rest r (day_last rest (inl ends)) (subst (λ b. Day b (payload ∷ ps) r) (sym same) (day_on payload more ps r full day))).0 in
        let no_one : ⊥ = cc in no_one

  -- a snapshot file has none of the faults
  pub file_no_fault : (fault : SnapFault) → Ends rest → IsFaultOf bytes fault → ⊥
  file_no_fault NoEnd ends (k, stops) = not_ended k stops
  file_no_fault (Frame (Truncated held)) ends (inl (k, stops)) = not_cut k held stops
  file_no_fault (Frame (Truncated held)) ends (inr closed) = not_following (λ r. Open r × (held ≡ length r)) (λ (part, count). end_once rest ends part) closed
  file_no_fault (Frame (Read error)) ends h = h
  file_no_fault (Frame (Write sent error)) ends h = h
  file_no_fault (Frame TooLong) ends h = h
  file_no_fault (Codec place f) ends at = not_refused place (stop.Codec f) at
  file_no_fault (Rule place why) ends at = not_refused place (stop.Rule why) at
  file_no_fault AfterEnd ends closed =
      not_following (λ r. (payload : List ℕ) × (more : List ℕ) × IsFull payload × (r ≡ block payload ++ more)) (λ (payload, more, full, same). block_ends payload more ends full same) closed
  file_no_fault TooManyMessages ends at = not_refused (10 ^ 19) stop.TooManyMessages at
