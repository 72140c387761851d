-- Ranges and choices after the messages before a cursor.
use Rattle.std.proofs.Common.{◌≡◌, ℕ, zero, suc, ◌-◌, ◌==◌, ◌&&◌, max, nat_le, Bool, true, false, List, [], ◌∷◌, length, map, Option, None, Some, refl, sym, ap, ◌∙◌, arith, if◌then◌else◌}
use Rattle.std.specs.Prelude.{◌||◌, not, is_some, option_map}
use Rattle.std.proofs.lemmas.Bool.{and_right, false≢true}
use Rattle.std.proofs.lemmas.Bool.Decides.{nat_tests}
use Rattle.itch_book.proofs.Lists.{by_test}
use Rattle.itch_codec.specs.Headers.{time_of}
use Rattle.itch_codec.specs.declared.message.Message.{Message}
use Rattle.itch_day.specs.DayCursors.{later, latest}
use Rattle.itch_market.specs.Wanted.{Wanted}
use Rattle.itch_commands.specs.Choices.{Chosen, chosen_listing_all, chosen_past, chosen_past_cursor, directory_of}
use Rattle.itch_commands.specs.Lookup.{Lookup, listed, lookup_after, lookup_with}
use Rattle.itch_commands.specs.Starts.{before_range, is_begun, is_beyond, is_since, since_after, start_after, start_after_all, start_past}
use Rattle.itch_commands.specs.declared.start.Start.{Start}
use Rattle.std.proofs.lemmas.List.{length-map}
use Rattle.itch_codec.specs.Messages.{message_of}
use Rattle.itch_day.specs.DayCursors.{IsDayCursor}
use Rattle.itch_day.specs.declared.cursor.DayCursor.{DayCursor}
use Rattle.itch_offsets.proofs.Onward.{before_if, not_begun, rest_before}

later_later : (a b c : Option ℕ) → later (later a b) c ≡ later a (later b c)
later_later None b c = refl
later_later (Some a) None c = refl
later_later (Some a) (Some b) None = refl
later_later (Some a) (Some b) (Some c) =
    let same : max (max a b) c ≡ max a (max b c) = omega arith in
    ap Some same

later_none : (t : Option ℕ) → later t None ≡ t
later_none None = refl
later_none (Some t) = refl

latest_from : (t : Option ℕ) (xs : List Message) → latest t xs ≡ later t (latest None xs)
latest_from t [] = sym (later_none t)
latest_from t (x ∷ xs) =
    latest_from (later t (time_of x)) xs
    ∙ later_later t (time_of x) (latest None xs)
    ∙ ap (later t) (sym (latest_from (time_of x) xs))

-- the time still to be reached, by whether it was
abbrev still : ℕ → Bool → Option ℕ
still s reached = if reached then None else Some s

since_twice : (since t u : Option ℕ) → since_after (since_after since t) u ≡ since_after since (later t u)
since_twice None t u = refl
since_twice (Some s) None u = refl
since_twice (Some s) (Some t) None =
    by_test (nat_le s t)
    (λ is. ap (λ b. since_after (still s b) None) is ∙ sym (ap (still s) is))
    (λ not. ap (λ b. since_after (still s b) None) not ∙ sym (ap (still s) not))
since_twice (Some s) (Some t) (Some u) =
    by_test (nat_le s t)
    (λ is.
    let more : nat_le s (max t u) ≡ true = grind (arith, nat_tests) in
    ap (λ b. since_after (still s b) (Some u)) is ∙ sym (ap (still s) more))
    (λ not.
    by_test (nat_le s u)
    (λ is.
    let more : nat_le s (max t u) ≡ true = grind (arith, nat_tests) in
    ap (λ b. since_after (still s b) (Some u)) not ∙ ap (still s) is ∙ sym (ap (still s) more))
    (λ neither.
    let less : nat_le s (max t u) ≡ false = grind (arith, nat_tests) in
    ap (λ b. since_after (still s b) (Some u)) not ∙ ap (still s) neither ∙ sym (ap (still s) less)))

abbrev at : ℕ → Option ℕ → Start
at before since = record { before = before; since = since }

pub past_all : (start : Start) (xs : List Message) → start_after_all start xs ≡ at (start.before - length xs) (since_after start.since (latest None xs))
unfolding start_after_all
past_all start [] =
    let none : start.before ≡ start.before - 0 = omega arith in
    ap (λ n. at n start.since) none ∙ ap (at (start.before - 0)) (none_after start.since)
  where
    none_after : (since : Option ℕ) → since ≡ since_after since None
    none_after None = refl
    none_after (Some s) = refl
past_all start (x ∷ xs) =
    let fewer : start.before - 1 - length xs ≡ start.before - length (x ∷ xs) = omega arith in
    past_all (start_after start (time_of x)) xs
    ∙ ap (λ n. at n (since_after (since_after start.since (time_of x)) (latest None xs))) fewer
    ∙ ap (at (start.before - length (x ∷ xs))) (since_twice start.since (time_of x) (latest None xs) ∙ ap (since_after start.since) (sym (latest_from (time_of x) xs)))

abbrev choice : Option Wanted → Option (List ℕ) → Start → Option Lookup → Chosen
choice only types start stocks = record { start = start; only = only; stocks = stocks; types = types; reference = None }

not_listed : (entry : Option (ℕ × List ℕ)) (s : Lookup) → is_some entry ≡ false → lookup_with entry s ≡ s
not_listed None s none = refl
not_listed (Some entry) s none = absurd (false≢true (sym none))

unlisted : (x : Message) (stocks : Option Lookup) → is_some (listed x) ≡ false → option_map (lookup_after x) stocks ≡ stocks
unlisted x None none = refl
unlisted x (Some s) none = ap Some (not_listed (listed x) s none)

-- the Stock Directory messages, by whether the first message is one
abbrev directory_if : Message → List Message → Bool → List Message
directory_if x xs is = if is then x ∷ directory_of xs else directory_of xs

pub choice_on : (only : Option Wanted) (types : Option (List ℕ)) (start : Start) (stocks : Option Lookup) (xs : List Message)
    → chosen_past (choice only types start stocks) xs ≡ chosen_listing_all (choice only types (start_after_all start xs) stocks) (directory_of xs)
unfolding chosen_past chosen_listing_all directory_of start_after_all
choice_on only types start stocks [] = refl
choice_on only types start stocks (x ∷ xs) =
    let next : Start = start_after start (time_of x) in
    let last : Chosen = choice only types (start_after_all next xs) stocks in
    by_test (is_some (listed x))
    (λ is. choice_on only types next (option_map (lookup_after x) stocks) xs ∙ sym (ap (λ b. chosen_listing_all last (directory_if x xs b)) is))
    (λ none.
    ap (λ s. chosen_past (choice only types next s) xs) (unlisted x stocks none)
    ∙ choice_on only types next stocks xs
    ∙ sym (ap (λ b. chosen_listing_all last (directory_if x xs b)) none))

pub past_cursor : (start : Start) (cursor : DayCursor) (payloads : List (List ℕ)) → IsDayCursor cursor payloads → start_after_all start (map message_of payloads) ≡ start_past start cursor
past_cursor start cursor payloads is =
    let count : length (map message_of payloads) ≡ cursor.count = length-map payloads message_of ∙ sym is.count in
    past_all start (map message_of payloads)
    ∙ ap (λ n. at (start.before - n) (since_after start.since (latest None (map message_of payloads)))) count
    ∙ ap (λ t. at (start.before - cursor.count) (since_after start.since t)) (sym is.latest)

-- a choice that follows no order
abbrev with_reference : Chosen → Option ℕ → Chosen
with_reference chosen reference = record chosen { reference = reference }

pub choice_cursor : (chosen : Chosen) (cursor : DayCursor) (payloads : List (List ℕ)) → IsDayCursor cursor payloads → chosen.reference ≡ None
    → chosen_past chosen (map message_of payloads) ≡ chosen_listing_all (chosen_past_cursor chosen cursor) (directory_of (map message_of payloads))
choice_cursor chosen cursor payloads is none =
    let xs : List Message = map message_of payloads in
    ap (λ r. chosen_past (with_reference chosen r) xs) none
    ∙ choice_on chosen.only chosen.types chosen.start chosen.stocks xs
    ∙ ap (λ s. chosen_listing_all (choice chosen.only chosen.types s chosen.stocks) (directory_of xs)) (past_cursor chosen.start cursor payloads is)
    ∙ sym (ap (λ r. chosen_listing_all (with_reference (chosen_past_cursor chosen cursor) r) (directory_of xs)) none)

not_since : (since t u : Option ℕ) → is_since since (later t u) ≡ false → (is_since since t ≡ false) × (is_since (since_after since t) u ≡ false)
not_since None t u late = absurd (false≢true (sym late))
not_since (Some s) None u late = (refl, late)
not_since (Some s) (Some t) None late = (late, ap (λ b. is_since (still s b) None) late)
not_since (Some s) (Some t) (Some u) late =
    let first : nat_le s t ≡ false = grind (arith, nat_tests) in
    let second : nat_le s u ≡ false = grind (arith, nat_tests) in
    (first, ap (λ b. is_since (still s b) (Some u)) first ∙ second)

both_late : (since t u : Option ℕ) → is_since since t ≡ false → is_since (since_after since t) u ≡ false → is_since since (later t u) ≡ false
both_late None t u early late = absurd (false≢true (sym early))
both_late (Some s) None u early late = late
both_late (Some s) (Some t) None early late = early
both_late (Some s) (Some t) (Some u) early late =
    let second : nat_le s u ≡ false = sym (ap (λ b. is_since (still s b) (Some u)) early) ∙ late in
    grind (arith, nat_tests)

or_right : (x y : Bool) → y ≡ true → (x || y) ≡ true
or_right true y is = refl
or_right false y is = is

not_false : (x : Bool) → not x ≡ true → x ≡ false
not_false true is = absurd (false≢true is)
not_false false is = refl

-- this many messages, with this latest timestamp, are all before a range
abbrev are_beyond : Start → ℕ → Option ℕ → Bool
are_beyond start count latest = nat_le count start.before || not (is_since start.since latest)

beyond_more : (start : Start) (t : Option ℕ) (n : ℕ) (u : Option ℕ) → are_beyond start (suc n) (later t u) ≡ true
    → (is_begun start t ≡ false) × (are_beyond (start_after start t) n u ≡ true)
beyond_more start t n u is =
    by_test (nat_le (suc n) start.before)
    (λ within.
    let some : (start.before == 0) ≡ false = grind (arith, nat_tests) in
    let rest : nat_le n (start.before - 1) ≡ true = grind (arith, nat_tests) in
    (ap (λ b. b && is_since start.since t) some, ap (λ b. b || not (is_since (since_after start.since t) u)) rest))
    (λ without.
    let late = not_since start.since t u (not_false (is_since start.since (later t u)) (sym (ap (λ b. b || not (is_since start.since (later t u))) without) ∙ is)) in (
      and_right (start.before == 0) (is_since start.since t) late.0,
      or_right (nat_le n (start.before - 1)) (not (is_since (since_after start.since t) u)) (ap not late.1),
    ))

pub beyond_all : (start : Start) (xs : List Message) → are_beyond start (length xs) (latest None xs) ≡ true → before_range start xs ≡ xs
unfolding before_range
beyond_all start [] is = refl
beyond_all start (x ∷ xs) is =
    let t : Option ℕ = time_of x in
    let more = beyond_more start t (length xs) (latest None xs) (ap (are_beyond start (length (x ∷ xs))) (sym (latest_from t xs)) ∙ is) in
    ap (before_if start x xs) more.0 ∙ ap (λ l. x ∷ l) (beyond_all (start_after start t) xs more.1)

pub beyond_cursor : (start : Start) (cursor : DayCursor) (payloads : List (List ℕ)) → IsDayCursor cursor payloads → is_beyond start cursor ≡ true
    → before_range start (map message_of payloads) ≡ map message_of payloads
beyond_cursor start cursor payloads is beyond =
    let xs : List Message = map message_of payloads in
    beyond_all start xs (ap (λ n. are_beyond start n (latest None xs)) (length-map payloads message_of ∙ sym is.count) ∙ ap (are_beyond start cursor.count) (sym is.latest) ∙ beyond)

within_more : (start : Start) (t : Option ℕ) (n : ℕ) (u : Option ℕ) → (n ≡ 0 → u ≡ None) → is_begun start t ≡ false → are_beyond (start_after start t) n u ≡ true
    → are_beyond start (suc n) (later t u) ≡ true
within_more start t n u none ahead is =
    by_test (nat_le (suc n) start.before)
    (λ within. ap (λ b. b || not (is_since start.since (later t u))) within)
    (λ without. or_right (nat_le (suc n) start.before) (not (is_since start.since (later t u)))
    (by_test (is_since start.since t)
    (λ reached.
    let some : (start.before == 0) ≡ false = by_test (start.before == 0) (λ zero. absurd (false≢true (sym ahead ∙ ap (λ b. b && is_since start.since t) zero ∙ reached))) (λ some. some) in
    let rest : nat_le n (start.before - 1) ≡ false = grind (arith, nat_tests) in
    let late : (false || not (is_since (since_after start.since t) u)) ≡ true = sym (ap (λ b. b || not (is_since (since_after start.since t) u)) rest) ∙ is in
    absurd (false≢true (ap (λ b. not (is_since (if b then None else start.since) u)) (sym reached) ∙ late)))
    (λ early.
    by_test (nat_le n (start.before - 1))
    (λ few.
    let zero : n ≡ 0 = grind (arith, nat_tests) in
    ap not (both_late start.since t u early (ap (is_since (since_after start.since t)) (none zero) ∙ (not_since start.since t None (ap (is_since start.since) (later_none t) ∙ early)).1)))
    (λ many.
    let late : not (is_since (since_after start.since t) u) ≡ true = sym (ap (λ b. b || not (is_since (since_after start.since t) u)) many) ∙ is in
    ap not (both_late start.since t u early (not_false (is_since (since_after start.since t) u) late))))))

none_latest : (xs : List Message) → length xs ≡ 0 → latest None xs ≡ None
none_latest [] is = refl
none_latest (x ∷ xs) is = absurd (omega (arith, is))

pub within_all : (start : Start) (xs : List Message) → before_range start xs ≡ xs → are_beyond start (length xs) (latest None xs) ≡ true
within_all start [] all =
    let few : nat_le 0 start.before ≡ true = grind (arith, nat_tests) in
    ap (λ b. b || not (is_since start.since None)) few
within_all start (x ∷ xs) all =
    let t : Option ℕ = time_of x in
    ap (are_beyond start (length (x ∷ xs))) (latest_from t xs)
    ∙ within_more start t (length xs) (latest None xs) (none_latest xs) (not_begun start x xs all) (within_all (start_after start t) xs (rest_before start x xs all))

pub within_cursor : (start : Start) (cursor : DayCursor) (payloads : List (List ℕ)) → IsDayCursor cursor payloads → before_range start (map message_of payloads) ≡ map message_of payloads
    → is_beyond start cursor ≡ true
within_cursor start cursor payloads is all =
    let xs : List Message = map message_of payloads in
    sym (ap (λ n. are_beyond start n (latest None xs)) (length-map payloads message_of ∙ sym is.count) ∙ ap (are_beyond start cursor.count) (sym is.latest)) ∙ within_all start xs all
