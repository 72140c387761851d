-- The object in a handle, and the effect of a call on it.
use Rattle.std.specs.Prelude.{◌≡◌, ◌⊎◌, Option, Some, None, option_map, option_and_then}
use Rattle.itch_join.specs.States.{Joining}
use Rattle.itch_market.specs.Content.{Content}
use Rattle.itch_soup.specs.Clients as soup
use Rattle.itch_soup.specs.Servers as soup_server
use Rattle.itchsnap_c.specs.declared.answers.Answer.{Answer}
use Rattle.itchsnap_c.specs.declared.object.Object.{Object}
use Rattle.itchsnap_c.specs.declared.object.Object.TheVariants.{Market, Joiner, Client, Server}
use Rattle.itchsnap_c.specs.Codes.{done, no_memory, in_use}

-- the market for look-ups: for a joiner the one that it keeps once it has joined
abbrev pub market_of : Object → Option Content
market_of (Market m) = Some m
market_of (Joiner j) = option_map (λ at. at.market) j.state.joined
market_of (Client c) = None
market_of (Server s) = None

-- the same for a handle
abbrev pub held_market : Option Object → Option Content
held_market held = option_and_then market_of held

-- the result of a call that fills a handle, and the handle afterwards: a handle that holds an object is unchanged, and so is one for which
-- memory runs out
abbrev pub Fills : Option Object → Object → Answer → Option Object → Type 0
Fills (Some old) made answer new = (answer ≡ in_use) × (new ≡ Some old)
Fills None made answer new = ((answer ≡ done) × (new ≡ Some made)) ⊎ ((answer ≡ no_memory) × (new ≡ None))

-- The result of a call on an object, and the object afterwards; and the answer if the handle holds none.
abbrev pub OnHandle : {A : Type 0} → A → (Object → A → Object → Type 0) → Option Object → A → Option Object → Type 0
OnHandle wrong call (Some old) answer (Some new) = call old answer new
OnHandle wrong call (Some old) answer None = ⊥
OnHandle wrong call None answer new = (answer ≡ wrong) × (new ≡ None)

-- The result of a call on one part of an object, and the object afterwards; an object without that part is unchanged.
abbrev pub AtPart : {A P : Type 0} → (P → Object) → A → (P → A → P → Type 0) → Option P → Object → A → Object → Type 0
AtPart {A} {P} made wrong call (Some old_part) old answer new = (new_part : P) × call old_part answer new_part × (new ≡ made new_part)
AtPart made wrong call None old answer new = (answer ≡ wrong) × (new ≡ old)

-- a market that no joiner keeps
abbrev pub plain_market_of : Object → Option Content
plain_market_of (Market m) = Some m
plain_market_of (Joiner j) = None
plain_market_of (Client c) = None
plain_market_of (Server s) = None

abbrev pub joiner_of : Object → Option Joining
joiner_of (Market m) = None
joiner_of (Joiner j) = Some j
joiner_of (Client c) = None
joiner_of (Server s) = None

abbrev pub client_of : Object → Option soup.Client
client_of (Market m) = None
client_of (Joiner j) = None
client_of (Client c) = Some c
client_of (Server s) = None

abbrev pub server_of : Object → Option soup_server.Server
server_of (Market m) = None
server_of (Joiner j) = None
server_of (Client c) = None
server_of (Server s) = Some s

-- the result of a call on a market, a joiner, a client's session or a server's, and the object afterwards
abbrev pub AtMarket : {A : Type 0} → A → (Content → A → Content → Type 0) → Object → A → Object → Type 0
AtMarket wrong call old answer new = AtPart Market wrong call (plain_market_of old) old answer new

abbrev pub AtJoiner : {A : Type 0} → A → (Joining → A → Joining → Type 0) → Object → A → Object → Type 0
AtJoiner wrong call old answer new = AtPart Joiner wrong call (joiner_of old) old answer new

abbrev pub AtClient : {A : Type 0} → A → (soup.Client → A → soup.Client → Type 0) → Object → A → Object → Type 0
AtClient wrong call old answer new = AtPart Client wrong call (client_of old) old answer new

abbrev pub AtServer : {A : Type 0} → A → (soup_server.Server → A → soup_server.Server → Type 0) → Object → A → Object → Type 0
AtServer wrong call old answer new = AtPart Server wrong call (server_of old) old answer new
