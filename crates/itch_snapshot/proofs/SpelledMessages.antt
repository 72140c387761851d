-- The messages of a snapshot list fit their fields, and their bytes fit blocks.
use Rattle.std.proofs.Common.{◌≡◌, ℕ, ◌<◌, List, [], ◌∷◌, ◌++◌, map, filter, flat_map, Option, Some, None, sym, subst, arith}
use Rattle.std.specs.List.{AllByRecursion}
use Rattle.std.specs.Cmp.{nat_cmp_total}
use Rattle.std.specs.Cmp.Lexicographic.{nat_list_cmp_total}
use Rattle.std.specs.FinMap as finite
use Rattle.std.specs.FinMap.{nat_cmp-IsAntisymmetric, slice_cmp-IsAntisymmetric}
use Rattle.std.proofs.lemmas.Bool.Decides.{nat_tests}
use Rattle.itch_codec.specs.declared.message.Message.{Message}
use Rattle.itch_codec.specs.declared.message.Message.TheVariants as is
use Rattle.itch_codec.specs.Fields.{IsAlpha}
use Rattle.itch_codec.specs.Messages.{spelling}
use Rattle.itch_codec.proofs.Bytes.{each_byte}
use Rattle.itch_codec.proofs.Spelling.{spelling_short}
use Rattle.itch_codec.specs.Widths.{IsMessage, IsHeader, IsDirectory, IsAddOrder}
use Rattle.itch_codec.specs.declared.stocks.Directory.{Directory}
use Rattle.itch_frame.specs.Blocks.{IsPayload}
use Rattle.itch_book.specs.declared.order.Order.{Order}
use Rattle.itch_book.specs.Orders as book
use Rattle.itch_book.proofs.Lists.{All-append_rec, All-map_rec, All-weaker_rec, All-both_rec, All-filter_rec}
use Rattle.itch_book.proofs.StableLemmas.{All-in_order}
use Rattle.itch_book.proofs.OrderLemmas.{both_queues}
use Rattle.itch_market.specs.Runs.{AreMessages}
use Rattle.itch_market.specs.declared.security.Action.{Action}
use Rattle.itch_market.specs.Content.{Content, Listing}
use Rattle.itch_market.specs.GoodMarkets.{IsGood}
use Rattle.itch_market.specs.Widths.{IsMaybe, IsAction, IsHalt, IsPosition, IsSecurity, IsOrder}
use Rattle.itch_market.proofs.GoodMarkets.{IsEntry}
use Rattle.itch_market.proofs.Trees.{each_entry as each_of}
use Rattle.itch_snapshot.specs.Snapshot.{snap, header_at, event_part, action_part, sho_part, halt_part, position_part, states_part, add_of, attributed, order_part, locate_messages, locate_part}
use Rattle.itch_snapshot.proofs.Locates.{each_entry}

-- a message whose fields fit, and whose bytes fit a block
pub record IsSpelled (x : Message) : Type 0 where
  pub fits : IsMessage x
  pub short : IsPayload (spelling x)

header_fits : (locate : ℕ) → locate < 65536 → IsHeader (header_at locate)
header_fits locate fits = record { locate = fits; tracking = omega arith; stamp = omega arith }

event_spelled : (event : Option ℕ) → IsMaybe (λ code. code < 256) event → AllByRecursion IsSpelled (event_part event)
event_spelled None fits = tt
event_spelled (Some code) fits =
    let x = is.SystemEvent (record { header = header_at 0; code = code }) in
    let whole : IsMessage x = record { header = header_fits 0 (omega arith); code = fits } in
    (record { fits = whole; short = spelling_short x whole (λ kept. kept) }, tt)

directory_spelled : (locate : ℕ) (entry : Directory) → locate < 65536 → IsDirectory entry → IsSpelled (is.StockDirectory (record { header = header_at locate; entry = entry }))
directory_spelled locate entry here fits =
    let whole : IsMessage (is.StockDirectory (record { header = header_at locate; entry = entry })) = record { header = header_fits locate here; entry = fits } in
    record { fits = whole; short = spelling_short (is.StockDirectory (record { header = header_at locate; entry = entry })) whole (λ kept. kept) }

action_spelled : (locate : ℕ) (stock : List ℕ) (action : Option Action) → locate < 65536 → IsAlpha 8 stock → IsMaybe IsAction action → AllByRecursion IsSpelled (action_part locate stock action)
action_spelled locate stock None here text fits = tt
action_spelled locate stock (Some a) here text fits =
    let x = is.TradingAction (record { header = header_at locate; stock = stock; state = a.state; reserved = 32; reason = a.reason }) in
    let whole : IsMessage x = record { header = header_fits locate here; stock = text; state = fits.state; reserved = omega arith; reason = fits.reason } in
    (record { fits = whole; short = spelling_short x whole (λ kept. kept) }, tt)

sho_spelled : (locate : ℕ) (stock : List ℕ) (sho : Option ℕ) → locate < 65536 → IsAlpha 8 stock → IsMaybe (λ action. action < 256) sho → AllByRecursion IsSpelled (sho_part locate stock sho)
sho_spelled locate stock None here text fits = tt
sho_spelled locate stock (Some sho) here text fits =
    let x = is.RegSho (record { header = header_at locate; stock = stock; action = sho }) in
    let whole : IsMessage x = record { header = header_fits locate here; stock = text; action = fits } in
    (record { fits = whole; short = spelling_short x whole (λ kept. kept) }, tt)

halts_spelled : (locate : ℕ) (stock : List ℕ) (es : List (ℕ × ℕ)) → locate < 65536 → IsAlpha 8 stock → AllByRecursion (λ e. IsHalt e.0 e.1) es
    → AllByRecursion IsSpelled (map (halt_part locate stock) es)
halts_spelled locate stock [] here text fits = tt
halts_spelled locate stock (e ∷ es) here text fits =
    let x = halt_part locate stock e in
    let whole : IsMessage x = record { header = header_fits locate here; stock = text; market_code = fits.0.0; action = fits.0.1 } in
    (record { fits = whole; short = spelling_short x whole (λ kept. kept) }, halts_spelled locate stock es here text fits.1)

positions_spelled : (locate : ℕ) (stock : List ℕ) (es : List (List ℕ × List ℕ)) → locate < 65536 → IsAlpha 8 stock → AllByRecursion (λ e. IsPosition e.0 e.1) es
    → AllByRecursion IsSpelled (map (position_part locate stock) es)
positions_spelled locate stock [] here text fits = tt
positions_spelled locate stock (e ∷ es) here text fits =
    let x = position_part locate stock e in
    let bytes = each_byte e.1 fits.0.1.1 in
    let whole : IsMessage x = record { header = header_fits locate here; mpid = fits.0.0; stock = text; primary_market_maker = bytes 0; mode = bytes 1; state = bytes 2 } in
    (record { fits = whole; short = spelling_short x whole (λ kept. kept) }, positions_spelled locate stock es here text fits.1)

states_spelled : (locate : ℕ) (s : Listing) → locate < 65536 → IsSecurity s → AllByRecursion IsSpelled (states_part locate s)
states_spelled locate s here fits =
    let text = fits.entry.stock in
    let stock = s.entry.stock in
    let halts = map (halt_part locate stock) (finite.entries s.halts) in
    let positions = map (position_part locate stock) (finite.entries s.positions) in
    All-append_rec IsSpelled (action_part locate stock s.action) (sho_part locate stock s.sho ++ (halts ++ positions)) (action_spelled locate stock s.action here text fits.action)
    (All-append_rec IsSpelled (sho_part locate stock s.sho) (halts ++ positions) (sho_spelled locate stock s.sho here text fits.sho)
    (All-append_rec IsSpelled halts positions
    (halts_spelled locate stock (finite.entries s.halts) here text (each_of nat_cmp_total nat_cmp-IsAntisymmetric IsHalt s.halts fits.halts))
    (positions_spelled locate stock (finite.entries s.positions) here text
    (each_of nat_list_cmp_total (slice_cmp-IsAntisymmetric nat_cmp-IsAntisymmetric) IsPosition s.positions fits.positions))))

order_spelled : (stock : List ℕ) (x : Order) → IsAlpha 8 stock → book.IsLive x → IsOrder x → IsSpelled (order_part stock x)
order_spelled stock x text live fits = by_mpid x.mpid fits.mpid
  where
    add_fits : IsAddOrder (add_of stock x)
    add_fits = record {
      header = header_fits x.locate (let fit = live.1 in grind (arith, nat_tests));
      reference = fits.reference;
      shares = fits.shares;
      stock = text;
      price = fits.price;
    }

    by_mpid : (mpid : Option (List ℕ)) → IsMaybe (IsAlpha 4) mpid → IsSpelled (attributed (add_of stock x) mpid)
    by_mpid None h =
        record { fits = add_fits; short = spelling_short (is.AddOrder (add_of stock x)) add_fits (λ kept. kept) }
    by_mpid (Some mpid) h =
        let add = is.AttributedAddOrder (record { order = add_of stock x; attribution = mpid }) in
        let whole : IsMessage add = record { order = add_fits; attribution = h } in
        record { fits = whole; short = spelling_short add whole (λ kept. kept) }

-- an order that may be live, and whose fields fit
abbrev IsSound : Order → Type 0
IsSound x = book.IsLive x × IsOrder x

locate_spelled : (e : ℕ × Listing) (os : List Order) → IsEntry e.0 e.1 → AllByRecursion IsSound os → AllByRecursion IsSpelled (locate_messages e os)
locate_spelled e os fits sound =
    let text = fits.1.entry.stock in
    let stock = e.1.entry.stock in
    let messages = map (order_part stock) os in (
      directory_spelled e.0 e.1.entry fits.0 fits.1.entry,
      All-append_rec IsSpelled (states_part e.0 e.1) messages (states_spelled e.0 e.1 fits.0 fits.1)
          (All-map_rec IsSpelled (order_part stock) os (All-weaker_rec IsSound (λ x. IsSpelled (order_part stock x)) (λ x h. order_spelled stock x text h.0 h.1) os sound)),
    )

sides_sound : (orders : List Order) (locate : ℕ) → AllByRecursion IsSound orders → AllByRecursion IsSound (book.sides orders locate)
sides_sound orders locate sound =
    subst (AllByRecursion IsSound) (sym (both_queues orders locate))
    (All-in_order book.stands_before IsSound (filter (book.is_in locate) orders) (All-filter_rec IsSound (book.is_in locate) orders sound))

locates_spelled : (orders : List Order) (es : List (ℕ × Listing)) → AllByRecursion IsSound orders → AllByRecursion (λ e. IsEntry e.0 e.1) es → AllByRecursion IsSpelled (flat_map (locate_part orders) es)
locates_spelled orders [] sound fits = tt
locates_spelled orders (e ∷ es) sound fits =
    All-append_rec IsSpelled (locate_part orders e) (flat_map (locate_part orders) es)
    (locate_spelled e (book.sides orders e.0) fits.0 (sides_sound orders e.0 sound)) (locates_spelled orders es sound fits.1)

-- each message of the snapshot list of a good market fits, and so does its block
pub snap_spelled : (m : Content) → IsGood m → AllByRecursion IsSpelled (snap m)
snap_spelled m good =
    let es = finite.entries m.securities in
    All-append_rec IsSpelled (event_part m.event) (flat_map (locate_part m.orders) es)
    (event_spelled m.event good.event)
    (locates_spelled m.orders es (All-both_rec book.IsLive IsOrder m.orders good.live good.wide)
    (All-weaker_rec (λ e. finite.get m.securities e.0 ≡ Some e.1) (λ e. IsEntry e.0 e.1) (λ e h. subst (IsMaybe (IsEntry e.0)) h (good.securities e.0)) es (each_entry m.securities)))

-- the messages of a snapshot list are messages
pub snap_messages : (m : Content) → IsGood m → AreMessages (snap m)
snap_messages m good = All-weaker_rec IsSpelled IsMessage (λ x h. h.fits) (snap m) (snap_spelled m good)
