-- A fetch continues after some packets and ends after them, in only one way.
use Rattle.std.proofs.Common.{◌≡◌, ℕ, ◌+◌, ◌==◌, Bool, false, List, [], ◌∷◌, ◌++◌, length, Option, Some, None, refl, sym, ap, subst, ◌∙◌, append_assoc}
use Rattle.std.specs.Option.{option_map}
use Rattle.itch_codec.specs.declared.message.Message.TheVariants as message
use Rattle.itch_codec.specs.Messages.{message_of}
use Rattle.itch_codec.proofs.Spelling.{fault-Spells, message_of-Spells}
use Rattle.itch_frame.specs.Blocks.{IsPayload, block, blocks}
use Rattle.itch_frame.proofs.BlockLemmas.{same_block}
use Rattle.itch_market.specs.declared.refusal.Refusal.TheVariants.{UnexpectedEnd}
use Rattle.itch_market.specs.declared.stop.Stop.TheVariants as stop
use Rattle.itch_market.specs.Content.{Content, empty}
use Rattle.itch_market.specs.GoodMarkets.{IsGood}
use Rattle.itch_market.specs.Reasons.{reason}
use Rattle.itch_market.specs.Stops.{cause_by, cause}
use Rattle.itch_market.specs.Replays.{Fits}
use Rattle.itch_market.proofs.GoodMarkets.{effect_good}
use Rattle.itch_market.proofs.Causes.{cause-laid, no_reason, after_more}
use Rattle.itch_snapshot.specs.TakenMessages.{closing_number, is_full}
use Rattle.itch_snapshot.proofs.FileLemmas.{Spells-number}
use Rattle.itch_soup.specs.declared.client.ClientAct.{ClientAct}
use Rattle.itch_soup.specs.declared.client.ClientAct.TheVariants as act
use Rattle.itch_soup.specs.declared.origin.Origin.TheVariants.{Server}
use Rattle.itch_soup.specs.declared.packet.Packet.{Packet}
use Rattle.itch_soup.specs.Packets.{PacketSpells}
use Rattle.itch_soup.specs.Clients.{Client, client_answer, client_after_packet}
use Rattle.itch_soup.specs.NextPackets.{is_enough}
use Rattle.itch_soup.specs.Fetching.{IsDecidedFetch}
use Rattle.itch_soup.proofs.OnePacket.{same_packet}
use Rattle.itch_soup.proofs.SessionSteps.{heard_by}
use Rattle.itch_soup.proofs.FetchEnds.{Answer, so_far, by_cause, by_start, by_answer, at_block, answered, open_there, EndsHere, ends_there, same_end}

-- an answer after which the fetch continues
abbrev pub Goes : ClientAct → List (List ℕ) → Type 0
Goes act.Nothing ps = Unit {0}
Goes (act.Accepted next) ps = next ≡ 1
Goes (act.Data n p) ps = (is_full (length ps) ≡ false) × (cause (so_far ps) p ≡ None) × Fits p
Goes answer ps = ⊥

-- an End of Snapshot is refused as a message
no_end : (m : Content) (p : List ℕ) → cause m p ≡ None → closing_number p ≡ None
no_end m p none = by_closing (closing_number p) refl where
  by_closing : (o : Option ℕ) → closing_number p ≡ o → o ≡ None
  by_closing None is = refl
  by_closing (Some next) is =
      let spells = Spells-number p next is in
      let refusal : cause m p ≡ Some (stop.Rule UnexpectedEnd) =
      ap (λ f. cause_by f m p) (fault-Spells (message.End next) p spells)
      ∙ ap (λ x. option_map stop.Rule (reason m x)) (sym (message_of-Spells (message.End next) p spells)) in
      let clash : None ≡ Some (stop.Rule UnexpectedEnd) = sym none ∙ refusal in let no_one : ⊥ = cc in absurd no_one

goes_there : (answer : ClientAct) (ps : List (List ℕ)) → IsGood (so_far ps) → Goes answer ps → by_answer answer ps ≡ None
goes_there act.Nothing ps good goes = refl
goes_there (act.Accepted next) ps good one = ap (λ k. by_start (k == 1) k) one
goes_there (act.Data n p) ps good (room, clean, fits) =
    open_there ps p false (no_end (so_far ps) p clean) room ∙ ap (by_cause (length ps)) (cause-laid (so_far ps) p good ∙ clean)
goes_there answer ps good h = absurd h

good_then : (answer : ClientAct) (ps : List (List ℕ)) → IsGood (so_far ps) → Goes answer ps → IsGood (so_far (heard_by answer ps))
good_then act.Nothing ps good goes = good
good_then (act.Accepted next) ps good one = good
good_then (act.Data n p) ps good (room, clean, fits) =
    subst IsGood (sym (after_more empty ps p)) (effect_good (so_far ps) (message_of p) good fits (no_reason (so_far ps) p clean))
good_then answer ps good h = absurd h

-- the fetch continues after each of these packets, and ends after them
abbrev pub Run : ℕ → Client → List (List ℕ) → List Packet → List (List ℕ) → List ℕ → Answer → Type 0
Run k c ps [] [] b r = EndsHere (is_enough k) c ps b r
Run k c ps (packet ∷ packets) (q ∷ qs) b r =
    (is_enough k ≡ false) × IsPayload q × PacketSpells packet q Server × Goes (client_answer c packet) ps
    × Run (k + 1) (client_after_packet c packet 0) (heard_by (client_answer c packet) ps) packets qs b r
Run k c ps packets read b r = ⊥

-- it does not end at a packet after which it continues
goes_no_end : (enough : Bool) (c : Client) (ps : List (List ℕ)) (packet : Packet) (q rest : List ℕ) (r : Answer) → enough ≡ false → IsPayload q → PacketSpells packet q Server → IsGood (so_far ps)
    → Goes (client_answer c packet) ps → EndsHere enough c ps (block q ++ rest) r → IsDecidedFetch r → ⊥
goes_no_end enough c ps packet q rest r room fits spelled good goes ends decided =
    let on : at_block enough c ps q ≡ None = answered enough c ps q packet room spelled ∙ goes_there (client_answer c packet) ps good goes in
    let clash : None ≡ Some r = sym on ∙ ends_there r enough c ps q rest fits ends decided in
    let no_one : ⊥ = cc in no_one

pub one_run : (k : ℕ) (c : Client) (ps : List (List ℕ)) (xs ys : List Packet) (read eaten : List (List ℕ)) (b d : List ℕ) (r s : Answer) → IsGood (so_far ps) → Run k c ps xs read b r → Run k c ps ys eaten d s
    → blocks read ++ b ≡ blocks eaten ++ d → IsDecidedFetch r → IsDecidedFetch s → r ≡ s
one_run k c ps [] [] [] [] b d r s good h e same decided certain = same_end (is_enough k) c ps d r s (subst (λ b. EndsHere (is_enough k) c ps b r) same h) e decided certain
one_run k c ps [] (y ∷ ys) [] (q ∷ eaten) b d r s good h (room, fits, spelled, goes, on) same decided certain =
    absurd (goes_no_end (is_enough k) c ps y q (blocks eaten ++ d) r room fits spelled good goes
    (subst (λ b. EndsHere (is_enough k) c ps b r) (same ∙ append_assoc (block q) (blocks eaten) d) h) decided)
one_run k c ps (x ∷ xs) [] (p ∷ read) [] b d r s good (room, fits, spelled, goes, on) e same decided certain =
    absurd (goes_no_end (is_enough k) c ps x p (blocks read ++ b) s room fits spelled good goes
    (subst (λ b. EndsHere (is_enough k) c ps b s) (sym same ∙ append_assoc (block p) (blocks read) b) e) certain)
one_run k c ps (x ∷ xs) (y ∷ ys) (p ∷ read) (q ∷ eaten) b d r s good (room, fits, spelled, goes, on) (space, short, spells, going, then) same decided certain =
    let first = same_block p q (blocks read ++ b) (blocks eaten ++ d) fits short (sym (append_assoc (block p) (blocks read) b) ∙ same ∙ append_assoc (block q) (blocks eaten) d) in
    let packet : y ≡ x = same_packet y x q Server Server spells (subst (λ p. PacketSpells x p Server) first.0 spelled) in
    one_run (k + 1) (client_after_packet c x 0) (heard_by (client_answer c x) ps) xs ys read eaten b d r s (good_then (client_answer c x) ps good goes) on
    (subst (λ y. Run (k + 1) (client_after_packet c y 0) (heard_by (client_answer c y) ps) ys eaten d s) packet then) first.1 decided certain
one_run k c ps [] [] [] (q ∷ eaten) b d r s good h e same decided certain = absurd e
one_run k c ps [] (y ∷ ys) [] [] b d r s good h e same decided certain = absurd e
one_run k c ps (x ∷ xs) [] (p ∷ read) (q ∷ eaten) b d r s good h e same decided certain = absurd e
one_run k c ps (x ∷ xs) (y ∷ ys) (p ∷ read) [] b d r s good h e same decided certain = absurd e
one_run k c ps [] ys (p ∷ read) eaten b d r s good h e same decided certain = absurd h
one_run k c ps (x ∷ xs) ys [] eaten b d r s good h e same decided certain = absurd h
