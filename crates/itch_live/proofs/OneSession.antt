-- The session of a feed does not change once it is known.
use Rattle.std.proofs.Common.{◌≡◌, ℕ, not, List, [], ◌∷◌, ◌++◌, Option, None, Some, is_some, Ok, Err, refl, ap, ◌∙◌, inl, inr, if◌then◌else◌}
use Rattle.std.specs.Option.{option_or}
use Rattle.itch_frame.specs.declared.tally.Failures.{Failures}
use Rattle.itch_join.specs.Positions.{Position}
use Rattle.itch_live.specs.declared.news.News.{News}
use Rattle.itch_live.specs.declared.news.ServerKind.{ServerKind}
use Rattle.itch_live.specs.declared.news.ServerKind.TheVariants as source
use Rattle.itch_live.specs.declared.sessions.Sessions.{Sessions}
use Rattle.itch_live.specs.Sessions.{known_after}
use Rattle.itch_live.specs.Follows.{Following, accepted_as}
use Rattle.itch_live.specs.Feeds.{Did, Connects, Ticks, Replays, Hears, Does}
use Rattle.itch_live.specs.LiveServers as servers
use Rattle.itch_live.specs.LiveServers.{LiveServer, encoded_for, with_encoded, answered_with, Call, Event, History}

known_stays : (known : Sessions) (from : ServerKind) (named : Option (List ℕ)) (session : List ℕ) → known.feed ≡ Some session → (known_after known from named).feed ≡ Some session
known_stays known source.Live named session there = ap (λ o. option_or o named) there
known_stays known source.Glimpse named session there = by_own known.glimpse where
  by_own : (own : Option (List ℕ)) → (if not (is_some own) then record known { feed = option_or known.feed named } else known).feed ≡ Some session
  by_own None = ap (λ o. option_or o named) there
  by_own (Some name) = there

module _ {W : Type 0} (contents : W → Option (List ℕ)) (failures : W → Failures) where
  does_stay : (f g : Following) (did : Did W) (session : List ℕ) → Does contents failures f did g → f.sessions.feed ≡ Some session → g.sessions.feed ≡ Some session
  does_stay f g (Connects credentials now) session is there = ap (λ x. x.sessions.feed) is ∙ there
  does_stay f g (Ticks now) session is there = ap (λ x. x.sessions.feed) is ∙ there
  does_stay f g (Replays number payload result) session (calls, is) there = ap (λ x. x.sessions.feed) is ∙ there
  does_stay f g (Hears piece now result old new) session (held, took, inl (payload, block, (answer, named, t, means, inl (other, is, (says, shut, kept, same))), from, none)) there =
      ap (λ (r : News × Sessions). r.1.feed) says ∙ there
  does_stay f g (Hears piece now result old new) session (held, took, inl (payload, block, (answer, named, t, means, inr (own, goes, (acts, pins))), from, none)) there =
      ap (λ (k : Sessions). k.feed) pins ∙ known_stays f.sessions f.source (accepted_as answer named) session there
  does_stay f g (Hears piece now result old new) session (held, took, inr (none, says, kept, is)) there = ap (λ x. x.sessions.feed) is ∙ there

  abbrev Of : LiveServer → Option (List ℕ)
  Of d = d.following.sessions.feed

  call_stays : (d e : LiveServer) (call : Call W) (session : List ℕ) → servers.Step contents failures d call e → Of d ≡ Some session → Of e ≡ Some session
  call_stays d e (servers.Feeds did) session (f, doing, is) there = ap (λ x. Of x) is ∙ does_stay d.following f did session doing there
  call_stays d e (servers.Admits config now (Ok (Some place))) session (free, is) there = ap (λ x. Of x) is ∙ there
  call_stays d e (servers.Admits config now (Ok None)) session (taken, is) there = ap (λ x. Of x) is ∙ there
  call_stays d e (servers.Admits config now (Err error)) session is there = ap (λ x. Of x) is ∙ there
  call_stays d e (servers.Hears place piece now count) session (s, hears, is) there = ap (λ x. Of x) is ∙ there
  call_stays d e (servers.Answers limit now count) session is there = ap (λ x. Of x) is ∙ by_joined d.following.joining.state.joined ∙ there where
    by_joined : (o : Option Position) → Of (answered_with o d limit count now) ≡ Of d
    by_joined None = refl
    by_joined (Some j) = by_encoded (encoded_for limit d.slots j.market j.next) where
      by_encoded : (encoded : Option (List ℕ)) → Of (with_encoded encoded d j.next count now) ≡ Of d
      by_encoded None = refl
      by_encoded (Some bytes) = refl
  call_stays d e (servers.Takes place count now) session (fits, is) there = ap (λ x. Of x) is ∙ there
  call_stays d e (servers.Ticks now) session is there = ap (λ x. Of x) is ∙ there
  call_stays d e (servers.Leaves place) session is there = ap (λ x. Of x) is ∙ there

  pub stays : (begun : Following) (later : List (Event W)) (at : Event W) (before : List (Event W)) (d : LiveServer) (session : List ℕ)
      → History contents failures begun (later ++ at ∷ before) d → Of at.before ≡ Some session → Of d ≡ Some session
  stays begun [] at before d session (took, h) there = call_stays at.before d at.call session took there
  stays begun (x ∷ later) at before d session (took, h) there = call_stays x.before d x.call session took (stays begun later at before x.before session h there)
