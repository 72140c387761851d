-- The outcome of a packet of a feed whose connection may belong to another session.
use Rattle.std.proofs.Common.{◌≡◌, ℕ, not, List, [], Option, None, Some, is_some, refl, sym, ap, subst, ◌∙◌, inl, inr, if◌then◌else◌}
use Rattle.std.specs.Option.{option_or}
use Rattle.itch_frame.specs.Blocks.{IsBlockOf}
use Rattle.itch_frame.specs.Cuts.{IsTake}
use Rattle.itch_frame.specs.declared.tally.Failures.{Failures}
use Rattle.itch_join.specs.States.{Joining}
use Rattle.itch_soup.specs.declared.client.ClientAct.{ClientAct}
use Rattle.itch_soup.specs.declared.client.ClientAct.TheVariants as act
use Rattle.itch_soup.specs.Clients.{Client}
use Rattle.itch_live.specs.declared.news.ServerKind.{ServerKind}
use Rattle.itch_live.specs.declared.news.ServerKind.TheVariants as source
use Rattle.itch_live.specs.declared.news.News.{News}
use Rattle.itch_live.specs.declared.news.News.TheVariants as news
use Rattle.itch_live.specs.declared.sessions.Sessions.{Sessions}
use Rattle.itch_live.specs.Sessions.{expected, other_name, known_after}
use Rattle.itch_live.specs.Follows.{Following, Means, ActsOn, HearsPacket, HearsFeed, accepted_as, news_or, shut_if}

-- a packet that names no session does not name another one
pub unnamed : (wanted : Option (List ℕ)) → other_name wanted None ≡ None
unnamed (Some session) = refl
unnamed None = refl

absurd_other : {A : Type 0} (wanted : Option (List ℕ)) (other : List ℕ) → other_name wanted None ≡ Some other → A
absurd_other wanted other is = let e = sym (unnamed wanted) ∙ is in absurd (cc)

-- the feed's session does not change if no session is named, or one that does not count
or_none : (feed : Option (List ℕ)) → option_or feed None ≡ feed
or_none (Some session) = refl
or_none None = refl

or_same : (feed named : Option (List ℕ)) (other : List ℕ) → other_name feed named ≡ Some other → option_or feed named ≡ feed
or_same (Some session) named other is = refl
or_same None named other is = absurd (cc)

of_feed : (known : Sessions) (feed : Option (List ℕ)) → feed ≡ known.feed → record known { feed = feed } ≡ known
of_feed known feed same = ap (λ f. record known { feed = f }) same

pub none_known : (known : Sessions) (from : ServerKind) → known_after known from None ≡ known
none_known known source.Live = of_feed known _ (or_none known.feed)
none_known known source.Glimpse = by_own known.glimpse where
  by_own : (own : Option (List ℕ)) → (if not (is_some own) then record known { feed = option_or known.feed None } else known) ≡ known
  by_own None = of_feed known _ (or_none known.feed)
  by_own (Some session) = refl

known_same : (known : Sessions) (from : ServerKind) (named : Option (List ℕ)) (other : List ℕ) → other_name (expected known from) named ≡ Some other → known_after known from named ≡ known
known_same known source.Live named other is = of_feed known _ (or_same known.feed named other is)
known_same known source.Glimpse named other is = by_own known.glimpse is where
  by_own : (own : Option (List ℕ)) → other_name (option_or own known.feed) named ≡ Some other → (if not (is_some own) then record known { feed = option_or known.feed named } else known) ≡ known
  by_own None is = of_feed known _ (or_same known.feed named other is)
  by_own (Some session) is = refl

module _ {W : Type 0} (contents : W → Option (List ℕ)) (failures : W → Failures) where
  -- an acceptance under another name has no effect on the joiner and the record
  nothing_taken : (wanted named : Option (List ℕ)) (from : ServerKind) (answer : ClientAct) (other : List ℕ) (old new : Joining) (record_old record_new : W) (told : News)
      → other_name wanted (accepted_as answer named) ≡ Some other → ActsOn contents failures from answer old record_old told record_new new → (record_new ≡ record_old) × (new ≡ old)
  nothing_taken wanted named from (act.Accepted next) other old new record_old record_new told is acts = (acts.1, acts.2)
  nothing_taken wanted named from (act.Rejected code) other old new record_old record_new told is acts = absurd_other wanted other is
  nothing_taken wanted named from (act.Data number payload) other old new record_old record_new told is acts = absurd_other wanted other is
  nothing_taken wanted named from act.Nothing other old new record_old record_new told is acts = absurd_other wanted other is
  nothing_taken wanted named from act.Ended other old new record_old record_new told is acts = absurd_other wanted other is
  nothing_taken wanted named from (act.Fault fault) other old new record_old record_new told is acts = absurd_other wanted other is

  pub by_name : (known : Sessions) (from : ServerKind) (s heard t : Client) (payload : List ℕ) (now : ℕ) (answer : ClientAct) (named : Option (List ℕ)) (old new : Joining)
      (record_old record_new : W) (told : News) (result : News × Sessions) (o : Option (List ℕ)) → Means s payload now answer named heard
      → other_name (expected known from) (accepted_as answer named) ≡ o → ActsOn contents failures from answer old record_old told record_new new
      → result ≡ (news_or o told, known_after known from (accepted_as answer named)) → t ≡ shut_if o heard now
      → HearsPacket contents failures from known s old payload now record_old result record_new t new
  by_name known from s heard t payload now answer named old new record_old record_new told result (Some other) means is acts result_is t_is =
      let same = nothing_taken (expected known from) named from answer other old new record_old record_new told is acts in
      let pins : result ≡ (news.OtherSession other, known) = result_is ∙ ap (λ (k : Sessions). (news.OtherSession other, k)) (known_same known from (accepted_as answer named) other is) in
      (answer, named, heard, means, inl (other, is, (pins, t_is, same.0, same.1)))
  by_name known from s heard t payload now answer named old new record_old record_new told result None means is acts result_is t_is =
      let news_is : told ≡ result.0 = sym (ap (λ (r : News × Sessions). r.0) result_is) in
      (answer, named, heard, means, inr (is, t_is, (subst (λ n. ActsOn contents failures from answer old record_old n record_new new) news_is acts, ap (λ (r : News × Sessions). r.1) result_is)))

  -- a complete packet arrives, and its held bytes are dropped
  pub hears_whole : (inside f : Following) (piece held payload dropped : List ℕ) (now n : ℕ) (told : News) (known : Sessions) (session : Client) (joining : Joining) (record_old record_new : W)
      → inside ≡ f → IsTake inside.held piece n held → IsBlockOf payload held
      → HearsPacket contents failures inside.source inside.sessions inside.session inside.joining payload now record_old (told, known) record_new session joining → dropped ≡ []
      → HearsFeed contents failures f piece now record_old (n, told) record_new
      (record { sessions = known; source = inside.source; held = dropped; session = session; joining = joining })
  hears_whole inside f piece held payload dropped now n told known session joining record_old record_new same takes block hears none =
      subst (λ x. HearsFeed contents failures x piece now record_old (n, told) record_new
      (record { sessions = known; source = inside.source; held = dropped; session = session; joining = joining }))
      same (held, takes, inl (payload, block, hears, refl, none))
