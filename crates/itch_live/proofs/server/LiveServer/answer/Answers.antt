use Rattle.std.proofs.Common.{◌≡◌, ◌≤◌, length, sym, subst, ◌∙◌, ap, arith, OnOk, OnErr, Result, Ok, Err, option_map}
use Rattle.std.specs.List.{list_any}
use Rattle.std.proofs.lemmas.List.{with_items_is}
use Rattle.std.specs.Option.{option_copied}
use Rattle.itch_live.specs.Slots.{Slots, waits, handed}
use Rattle.itch_live.specs.LiveServers.{LiveServer, encoded_for}
use Rattle.itch_live.proofs.Handing.{none_waits, no_market, unnumbered, unmarketed, position_is, handed_encoded}
use Rattle.itch_live.proofs.server.LiveServer.answer.Goals as goal
use Rattle.itch_live.proofs.server.LiveServer.answer.Goals.{in_default-via-in-Some+in_default, in_default-via-in_default}

on_err : {T E : Type 0} (r : Result T E) (P : Type 0) → P → OnErr r P
on_err (Ok value) P h = tt
on_err (Err error) P h = h

pub returns-then-not-any_waits : goal.returns-then-not-any_waits
returns-then-not-any_waits g c = record {
  refused = tt;
  after = (
    length c.args.self.now.slots,
    omega arith,
    none_waits c.args.self.now c.args.limit c.args.now_ms (ap (list_any waits) (ap (λ d. d.slots) (sym c.self.view_is) ∙ sym c.deref.ensures.value) ∙ sym c.any_waits.ensures ∙ c.if-not-any_waits.true),
  );
}

pub returns-in_default : goal.returns-in_default
returns-in_default g c = record {
  refused = tt;
  after = (
    length c.args.self.now.slots,
    omega arith,
    no_market c.args.self.now c.args.limit (length c.args.self.now.slots) c.args.now_ms
        (ap (λ d. d.following.joining.state.joined) (sym c.self.view_is) ∙ elim c.in_default.branch [
          | in_default-via-in-Some+in_default w ↦ unmarketed _ (sym c.market.ensures ∙ ap option_copied w.in_default.is-1)
          | in_default-via-in_default w ↦ unnumbered _ (sym c.next.ensures ∙ w.in_default.is-0)
        ]),
  );
}

pub returns : goal.returns
returns g c =
    let length_is : length c.hand_in.new.slots ≡ c.self.inside.slots.len = c.hand_in.auto.slots ∙ ap length c.deref_mut.ensures.value ∙ sym c.self.inside.slots.ok.0 in
    let with_slots : Slots → LiveServer = λ s. record { following = c.self.inside.follower; slots = s } in record {
      refused = on_err c.hand_in.result _ (ap (list_any waits) (ap (λ d. d.slots) (sym c.self.view_is) ∙ sym c.deref.ensures.value) ∙ sym c.any_waits.ensures ∙ c.if-not-any_waits.false);
      after = (
        c.hand_in.ensures.0,
        subst (λ s. OnOk c.hand_in.result (length s ≤ c.hand_in.ensures.0)) (c.deref_mut.ensures.value ∙ ap (λ d. d.slots) c.self.view_is) c.hand_in.ensures.1,
        ap with_slots (with_items_is c.self.inside.slots c.hand_in.new.slots length_is)
            ∙ ap (λ (d : LiveServer). record d { slots = c.hand_in.new.slots }) c.self.view_is
            ∙ handed_encoded c.args.self.now (record { next = c.in-Some-Some.next; market = c.in-Some-Some.market.now }) (option_map (λ s. s.value.items) c.in_ok-encoded.encoded) c.args.limit c.hand_in.ensures.0
            c.args.now_ms c.hand_in.new.slots
            (ap (λ (d : LiveServer). d.following.joining.state.joined) (sym c.self.view_is)
            ∙ position_is _ c.in-Some-Some.next c.in-Some-Some.market.now (sym c.next.ensures ∙ c.in-Some-Some.is-0) (sym c.market.ensures ∙ ap option_copied c.in-Some-Some.is-1))
            (c.in_ok-encoded.ensures ∙ ap (λ s. encoded_for c.args.limit s c.in-Some-Some.market.now c.in-Some.next) c.deref-2.ensures.value
            ∙ ap (λ n. encoded_for c.args.limit c.self.inside.slots.items c.in-Some-Some.market.now n) c.in-Some.ensures.number
            ∙ ap (λ (d : LiveServer). encoded_for c.args.limit d.slots c.in-Some-Some.market.now c.in-Some-Some.next) c.self.view_is)
            (c.hand_in.ensures.2 ∙ ap (λ s. handed (option_map (λ s. s.value.items) c.in_ok-encoded.encoded) c.value.result c.args.now_ms c.hand_in.ensures.0 s) (c.deref_mut.ensures.value ∙ ap (λ (d : LiveServer). d.slots) c.self.view_is)
            ∙ ap (λ n. handed (option_map (λ s. s.value.items) c.in_ok-encoded.encoded) n c.args.now_ms c.hand_in.ensures.0 c.args.self.now.slots) (c.value.ensures.value ∙ c.in-Some.ensures.number)),
      );
    }
