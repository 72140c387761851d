-- A wait for a login step by step: the packets ignored so far, and one more.
use Rattle.std.proofs.Common.{◌≡◌, ℕ, ◌+◌, ◌^◌, ◌≤◌, Bool, true, false, List, [], ◌∷◌, ◌++◌, length, Option, None, Ok, refl, sym, subst, arith, length-append}
use Rattle.std.proofs.lemmas.Bool.Decides.{nat_tests}
use Rattle.std.specs.List.{AllByRecursion}
use Rattle.std.specs.Io.KnownBytes.{Consumes}
use Rattle.std.proofs.KnownBytes.{Consumes-nil}
use Rattle.itch_frame.specs.Blocks.{blocks}
use Rattle.itch_frame.proofs.BlockLemmas.{consumed_more, each-push}
use Rattle.itch_soup.specs.declared.packet.Packet.{Packet}
use Rattle.itch_soup.specs.declared.packet.Packet.TheVariants as is
use Rattle.std.specs.Prelude.{nat_lt, not, if◌then◌else◌}
use Rattle.itch_soup.specs.declared.login.ServerConfig.{ServerConfig}
use Rattle.itch_soup.specs.declared.connection.SessionStage.{SessionStage}
use Rattle.itch_soup.specs.declared.connection.SessionStage.TheVariants as stage
use Rattle.itch_soup.specs.declared.packet.LoginRequest.{LoginRequest}
use Rattle.itch_soup.specs.declared.server.ServerAct.{ServerAct}
use Rattle.itch_soup.specs.declared.server.ServerAct.TheVariants as server
use Rattle.itch_soup.specs.Names.{asks_for_session}
use Rattle.itch_soup.specs.Servers.{is_user, first_asked, not_authorised, not_available, judged, server_turn}
use Rattle.itch_soup.specs.NextPackets.{is_enough}
use Rattle.itch_soup.specs.Serving.{IsIdle, IsPassedOver, EndsWait, WaitsOn, WaitsForLogin, Wait}

-- one more packet may be read
pub one_more : (count : ℕ) → count ≤ 10 ^ 19 → is_enough count ≡ false → count + 1 ≤ 10 ^ 19
one_more count few room = grind (arith, nat_tests)

-- this many packets were ignored
pub record Waiting (old new : Option (List ℕ)) (count : ℕ) : Type 0 where
  pub passed : List (List ℕ)
  pub each : AllByRecursion IsPassedOver passed
  pub bytes : Consumes old new (blocks passed)
  pub counted : length passed ≡ count
  pub few : count ≤ 10 ^ 19

pub waiting_first : (bytes : Option (List ℕ)) → Waiting bytes bytes 0
waiting_first bytes = record { passed = []; each = tt; bytes = Consumes-nil bytes; counted = refl; few = omega arith }

pub waiting_on : (old mid new : Option (List ℕ)) (count : ℕ) → Waiting old mid count → WaitsOn (is_enough count) mid new (Ok None) → Waiting old new (count + 1)
waiting_on old mid new count so_far (room, (payload, fits, consumed, over)) = record {
  passed = so_far.passed ++ payload ∷ [];
  each = each-push IsPassedOver so_far.passed payload so_far.each over;
  bytes = consumed_more old mid new so_far.passed payload so_far.bytes consumed;
  counted = omega (arith, so_far.counted, length-append so_far.passed (payload ∷ []));
  few = one_more count so_far.few room;
}

pub waiting_ends : (old mid new : Option (List ℕ)) (count : ℕ) (wait : Wait) → Waiting old mid count → EndsWait (is_enough count) mid new wait → WaitsForLogin old new wait
waiting_ends old mid new count wait so_far ends = (
  so_far.passed,
  mid,
  so_far.each,
  so_far.bytes,
  subst (λ n. n ≤ 10 ^ 19) (sym so_far.counted) so_far.few,
  subst (λ n. EndsWait (is_enough n) mid new wait) (sym so_far.counted) ends,
)

-- the answers of the server's table during a wait for a login
pub idle_turn : (config : ServerConfig) (total : ℕ) (packet : Packet) → IsIdle packet → server_turn config total stage.Before packet ≡ (server.Nothing, stage.Before)
idle_turn config total (is.Debug payload) idle = refl
idle_turn config total (is.UnsequencedData payload) idle = refl
idle_turn config total is.ClientHeartbeat idle = refl
idle_turn config total packet idle = absurd idle

-- a login is answered
abbrev judged_by : Bool → Bool → Bool → ℕ → ServerAct × SessionStage
judged_by user session late first =
    if not user then (server.Reject not_authorised, stage.Closed) else (
    if not session then (server.Reject not_available, stage.Closed) else (
    if late then (server.Reject not_available, stage.Closed) else (
    (server.Accept first, stage.Accepted))))

answers_by : (user session late : Bool) (first : ℕ) → (judged_by user session late first).0 ≡ server.Nothing → ⊥
answers_by false session late first h = let no_one : ⊥ = cc in no_one
answers_by true false late first h = let no_one : ⊥ = cc in no_one
answers_by true true true first h = let no_one : ⊥ = cc in no_one
answers_by true true false first h = let no_one : ⊥ = cc in no_one

judged_answers : (config : ServerConfig) (total : ℕ) (login : LoginRequest) → (judged config total login).0 ≡ server.Nothing → ⊥
judged_answers config total login h =
    answers_by (is_user config login) (asks_for_session config.session login.session) (nat_lt (total + 1) (first_asked login)) (first_asked login) h

pub turn_idle : (config : ServerConfig) (total : ℕ) (packet : Packet) → (server_turn config total stage.Before packet).0 ≡ server.Nothing → IsIdle packet
turn_idle config total (is.Debug payload) h = tt
turn_idle config total (is.UnsequencedData payload) h = tt
turn_idle config total is.ClientHeartbeat h = tt
turn_idle config total (is.LoginRequest login) h = absurd (judged_answers config total login h)
turn_idle config total packet h = let no_one : ⊥ = cc in no_one
