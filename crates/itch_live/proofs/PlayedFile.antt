-- A feed that is played from a file.
use Rattle.std.proofs.Common.{◌≡◌, ℕ, ◌+◌, ◌-◌, ◌<◌, ◌≤◌, ◌⊎◌, inl, inr, Bool, true, false, List, [], ◌∷◌, ◌++◌, length, max, Option, refl, sym, ap, subst, ◌∙◌, arith, append-nil, length-append, nat_le, nat_lt, if◌then◌else◌}
use Rattle.itch_soup.specs.declared.login.ServerConfig.{ServerConfig}
use Rattle.itch_soup.specs.declared.packet.LoginRequest.{LoginRequest}
use Rattle.itch_soup.specs.declared.packet.Packet.{Packet}
use Rattle.itch_soup.specs.declared.server.ServerAct.{ServerAct}
use Rattle.itch_soup.specs.declared.server.ServerAct.TheVariants as act
use Rattle.itch_soup.specs.Servers.{first_asked, server_answer, server_after_packet}
use Rattle.itch_live.specs.Records.{between}
use Rattle.itch_live.specs.Players as players
use Rattle.itch_live.specs.Players.{Player, heard, is_idle, is_played}
use Rattle.itch_live.specs.Plays.{Happening, Hears, Plays, Takes, Ticks, Ends, Leaves, Becomes, Event, History, sent_bytes, handed_in, handed_by, IsNothing, IsRefusal, IsFeed, IsOfFile, AreOfFile, IsToldOfFile, IsSentOfFile}
use Rattle.itch_live.proofs.Logins.{IsBefore, IsDecision, decides}
use Rattle.itch_live.proofs.Recorded.{between_more, between_none}
use Rattle.itch_live.proofs.Played.{wants, IsSound, sound, untold, told_right}

-- the number of the next message does not change, or a login is judged
abbrev pub Goes : Player → Player → Type 0
Goes p q = (q.next ≡ p.next) ⊎ IsBefore p.session.connection.stage

by_packet : (p : Player) (packet : Packet) (now : ℕ) (a : ServerAct) → server_answer p.session packet ≡ a → Goes p (heard p (server_after_packet p.session packet now) a now)
by_packet p packet now (act.Accept n) is = inr (decides p.session.config p.session.total p.session.connection.stage packet (subst IsDecision (sym is) tt)).was_before
by_packet p packet now (act.Reject code) is = inl refl
by_packet p packet now act.Nothing is = inl refl
by_packet p packet now act.Close is = inl refl
by_packet p packet now (act.Fault fault) is = inl refl

hearing_goes : (p q : Player) (piece : List ℕ) (now n : ℕ) → players.Hears p piece now n q → Goes p q
hearing_goes p q piece now n (inl (deaf, all, same)) = inl (ap (λ (x : Player). x.next) same)
hearing_goes p q piece now n (inr (listens, (held, takes, inl (payload, answer, session, block_is, inl (packet, spelled, answer_is, after_is), turned)))) =
    subst (λ x. Goes p x)
    (sym (turned ∙ ap (λ (x : ServerAct × Option LoginRequest). heard p session x.0 now) answer_is ∙ ap (λ t. heard p t (server_answer p.session packet) now) after_is))
    (by_packet p packet now _ refl)
hearing_goes p q piece now n (inr (listens, (held, takes, inl (payload, answer, session, block_is, inr (fault, at, answer_is, after_is), turned)))) =
    inl (ap (λ (x : Player). x.next) (turned ∙ ap (λ (x : ServerAct × Option LoginRequest). heard p session x.0 now) answer_is))
hearing_goes p q piece now n (inr (listens, (held, takes, inr (none, is)))) = inl (ap (λ (x : Player). x.next) is)

same_next : (b : Bool) (p q : Player) (n : ℕ) → p.next ≡ n → q.next ≡ n → (if b then p else q).next ≡ n
same_next true p q n one other = one
same_next false p q n one other = other

-- the messages passed in are the file's, from one number up to the one before the next
abbrev pub FromFile : List (List ℕ) → List Event → Player → Type 0
FromFile file past p = (first : ℕ) → p.next ≡ first + length (handed_in past) → 0 < first → handed_in past ≡ between first p.next file

module _ (config : ServerConfig) (total : ℕ) (file : List (List ℕ)) where
  -- nothing is passed in
  stays : (past : List Event) (p q : Player) → q.next ≡ p.next → FromFile file past p
      → (first : ℕ) → q.next ≡ first + length (handed_in past ++ []) → 0 < first → handed_in past ++ [] ≡ between first q.next file
  stays past p q same goes first counted low =
      append-nil (handed_in past) ∙ goes first (sym same ∙ counted ∙ ap (λ ms. first + length ms) (append-nil (handed_in past))) low ∙ ap (λ n. between first n file) (sym same)

  begins : (past : List Event) (q : Player) → handed_in past ≡ [] → (first : ℕ) → q.next ≡ first + length (handed_in past ++ []) → 0 < first
      → handed_in past ++ [] ≡ between first q.next file
  begins past q none first counted low =
      let empty : length (handed_in past ++ []) ≡ 0 = ap (λ ms. length (ms ++ [])) none in
      let at : q.next ≡ first = omega (arith, counted) in
      ap (λ ms. ms ++ []) none ∙ sym (ap (λ n. between first n file) at ∙ between_none first file)

  hears_on : (past : List Event) (p q : Player) → Goes p q → IsSound config total past p → FromFile file past p
      → (first : ℕ) → q.next ≡ first + length (handed_in past ++ []) → 0 < first → handed_in past ++ [] ≡ between first q.next file
  hears_on past p q (inl same) s goes first counted low = stays past p q same goes first counted low
  hears_on past p q (inr before) s goes first counted low = begins past q (untold config total past p s before).1 first counted low

  goes_on : (past : List Event) (p q : Player) (happening : Happening) → Becomes p happening q → IsSound config total past p → FromFile file past p → IsOfFile file p happening
      → (first : ℕ) → q.next ≡ first + length (handed_in past ++ handed_by happening) → 0 < first → handed_in past ++ handed_by happening ≡ between first q.next file
  goes_on past p q (Hears piece now n) becomes s goes fits first counted low = hears_on past p q (hearing_goes p q piece now n becomes) s goes first counted low
  goes_on past p q (Plays message now) (some, short, is) s goes fits first counted low =
      let w = wants p some in
      let next : q.next ≡ p.next + 1 = ap (λ (x : Player). x.next) is in
      let was : p.next ≡ first + length (handed_in past) = omega (arith, next, counted, length-append (handed_in past) (message ∷ [])) in
      let above : first ≤ p.next = omega (arith, was) in
      ap (λ ms. ms ++ message ∷ []) (goes first was low) ∙ sym (ap (λ n. between first n file) next ∙ between_more first p.next file message low above (fits p.next w.number))
  goes_on past p q (Takes count now) (within, is) s goes fits first counted low =
      stays past p q (ap (λ (x : Player). x.next) is ∙ same_next (nat_lt 0 count) _ _ p.next refl refl) goes first counted low
  goes_on past p q (Ticks now) is s goes fits first counted low =
      stays past p q (ap (λ (x : Player). x.next) is
      ∙ same_next (nat_le 15000 (now - p.moved)) _ _ p.next refl (same_next (is_idle p now) _ _ p.next refl refl)) goes first counted low
  goes_on past p q (Ends now) is s goes fits first counted low =
      stays past p q (ap (λ (x : Player). x.next) is ∙ same_next (is_played p) _ _ p.next refl refl) goes first counted low
  goes_on past p q Leaves is s goes fits first counted low = stays past p q (ap (λ (x : Player). x.next) is) goes first counted low

  from_file : (begun : ℕ) (past : List Event) (p : Player) → History config total begun past p → AreOfFile file past → FromFile file past p
  from_file begun [] p is fits first counted low = begins [] p refl first counted low
  from_file begun (x ∷ past) p (becomes, before) (fits, all) first counted low =
      goes_on past x.before p x.happening becomes (sound config total begun past x.before before) (from_file begun past x.before before all) fits first counted low

  positive : (login : LoginRequest) → 0 < first_asked login
  positive login = at_least login.number where
    at_least : (n : ℕ) → 0 < max 1 n
    at_least n = omega arith

  with_file : (past : List Event) (p : Player) (bytes : List ℕ) → FromFile file past p
      → IsNothing p.progress bytes ⊎ IsRefusal config total past p.progress bytes ⊎ IsFeed config total past p.next p.progress bytes → IsToldOfFile config total file past p bytes
  with_file past p bytes goes (inl none) = inl none
  with_file past p bytes goes (inr (inl refusal)) = inr (inl refusal)
  with_file past p bytes goes (inr (inr f)) = inr (inr (record { feed = f; of_file = goes (first_asked f.login) f.counted (positive f.login) }))

pub sent_of_file : (config : ServerConfig) (total begun : ℕ) (file : List (List ℕ)) (past : List Event) (p : Player) → History config total begun past p → AreOfFile file past
    → IsSentOfFile config total file past p
sent_of_file config total begun file past p history fits = (
  sent_bytes past ++ p.outbox,
  with_file config total file past p (sent_bytes past ++ p.outbox) (from_file config total file begun past p history fits)
      (told_right config total begun past p history),
  (p.outbox, refl),
)
