-- The bytes sent to the clients of a server whose follower receives one feed.
use Rattle.std.proofs.Common.{◌≡◌, ℕ, ◌-◌, ◌==◌, ◌++◌, nat_lt, Bool, true, false, if◌then◌else◌, List, [], ◌∷◌, take, Option, None, Some, Ok, Err, refl, sym, ap, subst, ◌∙◌, inl, inr, append-nil, ◌&&◌, is_some}
use Rattle.std.specs.List.{AllByRecursion}
use Rattle.itch_codec.specs.Fields.{AreBytes}
use Rattle.itch_frame.specs.declared.tally.Failures.{Failures}
use Rattle.itch_market.specs.Content.{Content}
use Rattle.itch_market.specs.Wanted.{Wanted, has}
use Rattle.itch_join.specs.Positions.{Position}
use Rattle.itch_join.specs.Rules.{Rules, rules_of, run}
use Rattle.itch_snapshot.proofs.OneSnapshot.{snap_same}
use Rattle.itch_live.specs.SnapshotClients.{SnapshotClient, session_bytes}
use Rattle.itch_live.specs.Slots.{client_at}
use Rattle.itch_live.specs.Follows.{Following}
use Rattle.itch_live.specs.Feeds.{Followed, IsJoining}
use Rattle.itch_live.specs.Stories as stories
use Rattle.itch_live.specs.Stories.{Happening, Story, IsAnswer, IsTold, IsSentRight}
use Rattle.itch_live.specs.LiveServers.{LiveServer, encoded_for, with_encoded, answered_with, Call, Feeds, Admits, Hears, Answers, Takes, Ticks, Leaves, Event, Step, History, sent_at, changes, Stays}
use Rattle.itch_live.specs.Visits.{Arrival, Visit, with, answers, visit_by, visit_at, IsVisit}
use Rattle.itch_live.specs.FeedServers.{fed_by, fed, IsHonestCall, AreHonest, IsFeedAnswer, IsToldOfFeed, IsSentOfFeed}
use Rattle.itch_live.proofs.Feeds.{joining, stands_joined, positive_next}
use Rattle.itch_live.proofs.Same.{same_bytes}
use Rattle.itch_live.proofs.Stories.{sent_right}
use Rattle.itch_live.proofs.OneStory.{one_story}
use Rattle.itch_live.proofs.Visits.{visits}

abbrev pub IsAnswers : Happening → Type 0
IsAnswers (stories.Answers m next now) = Unit {0}
IsAnswers other = ⊥

abbrev pub begun_of : Visit → Option Visit → Arrival
begun_of u None = u.begun
begun_of u (Some v) = v.begun

abbrev pub past_of : Visit → Option Visit → List Happening
past_of u None = u.past
past_of u (Some v) = v.past

abbrev pub IsSeen : Option Visit → Type 0
IsSeen None = ⊥
IsSeen (Some v) = Unit {0}

-- the latest event, and those before it
abbrev pub first_or : Happening → List Happening → Happening
first_or d [] = d
first_or d (x ∷ xs) = x

abbrev pub rest_of : List Happening → List Happening
rest_of [] = []
rest_of (x ∷ xs) = xs

not_end : (a : Happening) (seen later : List Happening) → [] ≡ later ++ a ∷ seen → ⊥
not_end a seen [] h = cc
not_end a seen (l ∷ later) h = cc

abbrev pub market_or : Content → Happening → Content
market_or m (stories.Answers n next now) = n
market_or m other = m

abbrev pub number_or : ℕ → Happening → ℕ
number_or i (stories.Answers m next now) = next
number_or i other = i

-- the call that answered the client of a visit with the market
pub record Origin {W : Type 0} (k : ℕ) (past : List (Event W)) (begun : Arrival) (m : Content) (next : ℕ) (seen : List Happening) : Type 0 where
  pub later : List (Event W)
  pub at : Event W
  pub before : List (Event W)
  pub place : past ≡ later ++ at ∷ before
  pub limit : ℕ
  pub now : ℕ
  pub count : ℕ
  pub handed : at.call ≡ Answers limit now count
  pub joined : Position
  pub position : at.before.following.joining.state.joined ≡ Some joined
  pub market : m ≡ joined.market
  pub number : next ≡ joined.next
  pub visit : visit_at k before ≡ Some (record { begun = begun; past = seen })
  pub stayed : Stays k later

module _ {W : Type 0} (k : ℕ) where
  push : (x : Event W) (past : List (Event W)) (begun : Arrival) (m : Content) (next : ℕ) (seen : List Happening) → changes k x.call ≡ false → Origin k past begun m next seen
      → Origin k (x ∷ past) begun m next seen
  push x past begun m next seen stays o = record {
    later = x ∷ o.later;
    at = o.at;
    before = o.before;
    place = ap (λ xs. x ∷ xs) o.place;
    limit = o.limit;
    now = o.now;
    count = o.count;
    handed = o.handed;
    joined = o.joined;
    position = o.position;
    market = o.market;
    number = o.number;
    visit = o.visit;
    stayed = (stays, o.stayed);
  }

  -- one more event, which is not the answer `stories.Answers m next now`
  onward : (x : Event W) (past : List (Event W)) (h a : Happening) (seen later : List Happening) (v : Visit) (o : Option Visit) (T : Arrival → Type 0) → (IsAnswers h → ⊥) → IsAnswers a
      → ((u : Visit) → o ≡ Some u → (later : List Happening) → u.past ≡ later ++ a ∷ seen → T u.begun)
      → with h o ≡ Some v → v.past ≡ later ++ a ∷ seen → T v.begun
  onward x past h a seen later v None T other is so_far sees there = absurd (subst IsSeen (sym sees) tt)
  onward x past h a seen [] v (Some u) T other is so_far sees there =
      let both : h ∷ u.past ≡ a ∷ seen = ap (past_of v) sees ∙ there in
      absurd (other (subst IsAnswers (sym (ap (first_or h) both)) is))
  onward x past h a seen (l ∷ later) v (Some u) T other is so_far sees there =
      let both : h ∷ u.past ≡ l ∷ later ++ a ∷ seen = ap (past_of v) sees ∙ there in
      subst T (ap (begun_of v) sees) (so_far u refl later (ap rest_of both))

  module _ (m : Content) (next now : ℕ) (seen : List Happening) where
    abbrev Came : List (Event W) → Arrival → Type 0
    Came past begun = Origin k past begun m next seen

    -- the answer itself
    handed_in : (x : Event W) (past : List (Event W)) (limit at count : ℕ) (j : Position) (later : List Happening) (v : Visit) (o : Option Visit) → x.call ≡ Answers limit at count
        → x.before.following.joining.state.joined ≡ Some j → visit_at k past ≡ o
        → ((u : Visit) → o ≡ Some u → (later : List Happening) → u.past ≡ later ++ (stories.Answers m next now) ∷ seen → Came past u.begun)
        → with (stories.Answers j.market j.next at) o ≡ Some v → v.past ≡ later ++ (stories.Answers m next now) ∷ seen → Came (x ∷ past) v.begun
    handed_in x past limit at count j later v None call there is so_far sees place = absurd (subst IsSeen (sym sees) tt)
    handed_in x past limit at count j [] v (Some u) call there is so_far sees place =
        let both : stories.Answers j.market j.next at ∷ u.past ≡ (stories.Answers m next now) ∷ seen = ap (past_of v) sees ∙ place in
        let same : stories.Answers j.market j.next at ≡ (stories.Answers m next now) = ap (first_or (stories.Answers m next now)) both in
        record {
          later = [];
          at = x;
          before = past;
          place = refl;
          limit = limit;
          now = at;
          count = count;
          handed = call;
          joined = j;
          position = there;
          market = sym (ap (market_or m) same);
          number = sym (ap (number_or next) same);
          visit = is ∙ ap (λ n. Some (record { begun = n; past = u.past })) (ap (begun_of v) sees) ∙ ap (λ xs. Some (record { begun = v.begun; past = xs })) (ap rest_of both);
          stayed = tt;
        }
    handed_in x past limit at count j (l ∷ later) v (Some u) call there is so_far sees place =
        let both : stories.Answers j.market j.next at ∷ u.past ≡ l ∷ later ++ (stories.Answers m next now) ∷ seen = ap (past_of v) sees ∙ place in
        subst (Came (x ∷ past)) (ap (begun_of v) sees) (push x past u.begun m next seen (ap (λ c. changes k c) call) (so_far u refl later (ap rest_of both)))

    by_call : (x : Event W) (past : List (Event W)) (later : List Happening) (v : Visit) (call : Call W) → x.call ≡ call
        → ((u : Visit) → visit_at k past ≡ Some u → (later : List Happening) → u.past ≡ later ++ (stories.Answers m next now) ∷ seen → Came past u.begun)
        → visit_by call x.before k (visit_at k past) ≡ Some v → v.past ≡ later ++ (stories.Answers m next now) ∷ seen → Came (x ∷ past) v.begun
    by_call x past later v call is so_far sees place = cases call is sees where
      on : (o : Option Visit) → changes k x.call ≡ false → visit_at k past ≡ o → o ≡ Some v → Came (x ∷ past) v.begun
      on o stays there sees = push x past v.begun m next seen stays (so_far v (there ∙ sees) later place)

      lifted : changes k x.call ≡ false → (u : Visit) → visit_at k past ≡ Some u → (later : List Happening) → u.past ≡ later ++ (stories.Answers m next now) ∷ seen → Came (x ∷ past) u.begun
      lifted stays u there later place = push x past u.begun m next seen stays (so_far u there later place)

      other : (h : Happening) → changes k x.call ≡ false → (IsAnswers h → ⊥) → with h (visit_at k past) ≡ Some v → Came (x ∷ past) v.begun
      other h stays not sees = onward x past h (stories.Answers m next now) seen later v (visit_at k past) (Came (x ∷ past)) not tt (lifted stays) sees place

      at_place : (b : Bool) (h : Happening) → changes k x.call ≡ false → (IsAnswers h → ⊥) → (if b then with h (visit_at k past) else visit_at k past) ≡ Some v → Came (x ∷ past) v.begun
      at_place true h stays not sees = other h stays not sees
      at_place false h stays not sees = on (visit_at k past) stays refl sees

      came : (b : Bool) (begun : Arrival) → changes k x.call ≡ b → (if b then Some (record { begun = begun; past = [] }) else visit_at k past) ≡ Some v → Came (x ∷ past) v.begun
      came true begun at sees = absurd (not_end (stories.Answers m next now) seen later (ap (past_of v) sees ∙ place))
      came false begun at sees = on (visit_at k past) at refl sees

      leaves : (b : Bool) → changes k x.call ≡ b → (if b then None else visit_at k past) ≡ Some v → Came (x ∷ past) v.begun
      leaves true at sees = absurd (subst IsSeen (sym sees) tt)
      leaves false at sees = on (visit_at k past) at refl sees

      quiet : {call : Call W} {b : Bool} → x.call ≡ call → changes k call ≡ b → changes k x.call ≡ b
      quiet {call} {b} is at = ap (λ c. changes k c) is ∙ at

      handed_if : (limit at count : ℕ) (j : Position) (b : Bool) → x.call ≡ Answers limit at count → x.before.following.joining.state.joined ≡ Some j
          → (if b then with (stories.Answers j.market j.next at) (visit_at k past) else visit_at k past) ≡ Some v → Came (x ∷ past) v.begun
      handed_if limit at count j false call there sees = on (visit_at k past) (quiet call refl) refl sees
      handed_if limit at count j true call there sees = handed_in x past limit at count j later v (visit_at k past) call there refl so_far sees place

      handing : (limit at count : ℕ) (o : Option Position) (b : Bool) → x.call ≡ Answers limit at count → x.before.following.joining.state.joined ≡ o → answers o x.before limit b at (visit_at k past) ≡ Some v
          → Came (x ∷ past) v.begun
      handing limit at count None b call there sees = on (visit_at k past) (quiet call refl) refl sees
      handing limit at count (Some j) b call there sees = handed_if limit at count j (is_some (encoded_for limit x.before.slots j.market j.next) && b) call there sees

      cases : (call : Call W) → x.call ≡ call → visit_by call x.before k (visit_at k past) ≡ Some v → Came (x ∷ past) v.begun
      cases (Feeds did) is sees = on (visit_at k past) (quiet is refl) refl sees
      cases (Admits config at (Ok (Some place))) is sees = came (place == k) (record { config = config; now = at }) (quiet is refl) sees
      cases (Admits config at (Ok None)) is sees = on (visit_at k past) (quiet is refl) refl sees
      cases (Admits config at (Err error)) is sees = on (visit_at k past) (quiet is refl) refl sees
      cases (Hears place piece at count) is sees = at_place (place == k) (stories.Hears piece at count) (quiet is refl) (λ h. h) sees
      cases (Answers limit at count) is sees = handing limit at count x.before.following.joining.state.joined (nat_lt k count) is refl sees
      cases (Takes place count at) is sees = at_place (place == k) (stories.Takes count at) (quiet is refl) (λ h. h) sees
      cases (Ticks at) is sees = other (stories.Ticks at) (quiet is refl) (λ h. h) sees
      cases (Leaves place) is sees = leaves (place == k) (quiet is refl) sees

    origin : (past : List (Event W)) (later : List Happening) (v : Visit) → visit_at k past ≡ Some v → v.past ≡ later ++ (stories.Answers m next now) ∷ seen → Came past v.begun
    origin [] later v sees place = absurd (subst IsSeen (sym sees) tt)
    origin (x ∷ past) later v sees place = by_call x past later v x.call refl (λ u there after is. origin past after u there is) sees place

-- the client of a visit
slot_is : (v : Visit) (slot : Option SnapshotClient) (g : SnapshotClient) (sent so_far : List ℕ) → IsVisit (Some v) slot sent → Story v.begun.config v.begun.now v.past g so_far → slot ≡ Some g
slot_is v None g sent so_far is story = absurd is
slot_is v (Some h) g sent so_far is story = ap Some (one_story v.begun.config v.begun.now v.past h g sent so_far is story).0

module _ {W : Type 0} (contents : W → Option (List ℕ)) (failures : W → Failures) (begun : Following) where
  earlier : (later : List (Event W)) (at : Event W) (before : List (Event W)) (d : LiveServer) → History contents failures begun (later ++ at ∷ before) d → History contents failures begun before at.before
  earlier [] at before d (took, h) = h
  earlier (x ∷ later) at before d (took, h) = earlier later at before x.before h

  honest_earlier : (R : Rules) (feed : List (List ℕ)) (later : List (Event W)) (at : Event W) (before : List (Event W)) → AreHonest R feed (later ++ at ∷ before) → AreHonest R feed before
  honest_earlier R feed [] at before (is, h) = h
  honest_earlier R feed (x ∷ later) at before (is, h) = honest_earlier R feed later at before h

  abbrev Led : Rules → List (List ℕ) → List (Event W) → Following → Type 0
  Led R feed past f = Followed contents failures R feed begun (fed past) f

  pub followed : (R : Rules) (feed : List (List ℕ)) (past : List (Event W)) (d : LiveServer) → History contents failures begun past d → AreHonest R feed past → Led R feed past d.following
  followed R feed [] d (places, is) honest = ap (λ x. x.following) is
  followed R feed (x ∷ past) d (took, h) (is, honest) = by_call x.call took is (followed R feed past x.before h honest) where
    same : (f : Following) → f ≡ x.before.following → Led R feed past x.before.following → Led R feed past f
    same f is led = subst (Led R feed past) (sym is) led

    answered_same : (o : Option Position) (limit count now : ℕ) → (answered_with o x.before limit count now).following ≡ x.before.following
    answered_same None limit count now = refl
    answered_same (Some j) limit count now = by_encoded (encoded_for limit x.before.slots j.market j.next) where
      by_encoded : (encoded : Option (List ℕ)) → (with_encoded encoded x.before j.next count now).following ≡ x.before.following
      by_encoded None = refl
      by_encoded (Some bytes) = refl

    by_call : (call : Call W) → Step contents failures x.before call d → IsHonestCall R feed x.before call → Led R feed past x.before.following → Followed contents failures R feed begun (fed_by call (fed past)) d.following
    by_call (Feeds did) (f, does, is) honest led =
        subst (λ g. Followed contents failures R feed begun (did ∷ fed past) g) (sym (ap (λ e. e.following) is)) (x.before.following, does, honest, led)
    by_call (Admits config now (Ok (Some place))) (free, is) honest led = same d.following (ap (λ e. e.following) is) led
    by_call (Admits config now (Ok None)) (taken, is) honest led = same d.following (ap (λ e. e.following) is) led
    by_call (Admits config now (Err error)) is honest led = same d.following (ap (λ e. e.following) is) led
    by_call (Hears place piece now count) (s, hears, is) honest led = same d.following (ap (λ e. e.following) is) led
    by_call (Answers limit now count) is honest led = same d.following (ap (λ e. e.following) is ∙ answered_same x.before.following.joining.state.joined limit count now) led
    by_call (Takes place count now) (fits, is) honest led = same d.following (ap (λ e. e.following) is) led
    by_call (Ticks now) is honest led = same d.following (ap (λ e. e.following) is) led
    by_call (Leaves place) is honest led = same d.following (ap (λ e. e.following) is) led

  module _ (set : Wanted) (cap : ℕ) (feed : List (List ℕ)) (bytes : AllByRecursion AreBytes feed) (joins : IsJoining set cap feed begun) (k : ℕ) where
    abbrev R : Rules
    R = rules_of (has set)

    -- an answer that was passed in then
    answer_of : (past : List (Event W)) (d : LiveServer) → History contents failures begun past d → AreHonest R feed past → (v : Visit) → visit_at k past ≡ Some v → (told : List ℕ)
        → IsAnswer v.begun.config v.begun.now v.past told → IsFeedAnswer R feed k past v told
    answer_of past d h honest v sees told a =
        let o = origin k a.m a.next a.now a.before past a.later v sees a.place in
        let history : History contents failures begun o.before o.at.before = earlier o.later o.at o.before d (subst (λ xs. History contents failures begun xs d) o.place h) in
        let fair : AreHonest R feed o.before = honest_earlier R feed o.later o.at o.before (subst (AreHonest R feed) o.place honest) in
        let u : Visit = record { begun = v.begun; past = a.before } in
        let visit : IsVisit (Some u) (client_at o.at.before.slots k) (sent_at k o.before) =
        subst (λ x. IsVisit x (client_at o.at.before.slots k) (sent_at k o.before)) o.visit (visits contents failures k begun o.before o.at.before history) in
        let j : IsJoining set cap feed o.at.before.following = joining contents failures set cap feed begun (fed o.before) o.at.before.following joins (followed R feed o.before o.at.before history fair) in
        let right = (stands_joined set cap feed o.at.before.following bytes j).2.right o.joined o.position in
        record {
          later = o.later;
          at = o.at;
          before = o.before;
          place = o.place;
          limit = o.limit;
          now = o.now;
          count = o.count;
          handed = o.handed;
          stayed = o.stayed;
          present = sees;
          earlier = u;
          visiting = o.visit;
          same_begun = refl;
          waiting = a.waiting;
          there = slot_is u (client_at o.at.before.slots k) a.waiting (sent_at k o.before) a.so_far visit a.story;
          login = a.login;
          asked = a.asked;
          accepted = a.accepted;
          joined = o.joined;
          position = o.position;
          positive = positive_next set cap feed o.at.before.following bytes j o.joined o.position;
          to_bad = right.to_bad;
          is = a.is ∙ ap (λ m. session_bytes m a.next) o.market ∙ ap (λ n. session_bytes o.joined.market n) o.number
              ∙ same_bytes o.joined.market (run R (take (o.joined.next - 1) feed)) o.joined.next (snap_same o.joined.market (run R (take (o.joined.next - 1) feed)) right.market);
        }

    told_of_feed : (past : List (Event W)) (d : LiveServer) → History contents failures begun past d → AreHonest R feed past → (v : Visit) → visit_at k past ≡ Some v → (told : List ℕ)
        → IsTold v.begun.config v.begun.now v.past told → IsToldOfFeed R feed k past told
    told_of_feed past d h honest v sees told (inl none) = inl none
    told_of_feed past d h honest v sees told (inr (inl refused)) = inr (inl (v, sees, refused))
    told_of_feed past d h honest v sees told (inr (inr (inl greeting))) = inr (inr (inl (v, sees, greeting)))
    told_of_feed past d h honest v sees told (inr (inr (inr (beats, rest, answer, is)))) = inr (inr (inr (v, beats, rest, answer_of past d h honest v sees rest answer, is)))

    by_visit : (past : List (Event W)) (d : LiveServer) → History contents failures begun past d → AreHonest R feed past → (visit : Option Visit) (slot : Option SnapshotClient) → visit_at k past ≡ visit
        → IsVisit visit slot (sent_at k past) → IsSentOfFeed R feed k past (sent_at k past)
    by_visit past d h honest None None sees none = ([], inl refl, ([], sym none ∙ sym (append-nil (sent_at k past))))
    by_visit past d h honest None (Some g) sees is = absurd is
    by_visit past d h honest (Some v) None sees is = absurd is
    by_visit past d h honest (Some v) (Some g) sees story =
        let s = sent_right v.begun.config v.begun.now v.past g (sent_at k past) story in
        (s.0, told_of_feed past d h honest v sees s.0 s.1, s.2)

    pub sent_of_feed : (past : List (Event W)) (d : LiveServer) → History contents failures begun past d → AreHonest R feed past → IsSentOfFeed R feed k past (sent_at k past)
    sent_of_feed past d h honest = by_visit past d h honest (visit_at k past) (client_at d.slots k) refl (visits contents failures k begun past d h)
