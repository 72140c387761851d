-- The first bytes of a connection, before its login.
use Rattle.std.specs.Prelude.{ℕ, ◌+◌, ◌*◌, ◌==◌, ◌||◌, nat_le, List, [], ◌∷◌, length, if◌then◌else◌}
use Rattle.itch_clients.specs.declared.opening.FirstBytes.{FirstBytes}
use Rattle.itch_clients.specs.declared.opening.FirstBytes.TheVariants.{Begun, Packet, Passed, Broken}

-- a packet of more than 62 bytes: only debug text (+) and unsequenced data (U) can be this long
abbrev pub long_opening : ℕ → List ℕ → FirstBytes
long_opening count [] = Begun
long_opening count (kind ∷ rest) = if kind == 43 || kind == 85 then Passed (count + 2) else Broken

-- a packet of `count` bytes, of which these have arrived
abbrev pub packet_opening : ℕ → List ℕ → FirstBytes
packet_opening count rest =
    if nat_le count 62 then (if nat_le count (length rest) then Packet count else Begun) else long_opening count rest

-- the first bytes of a client: the length of a packet in two bytes, the high byte first, and the packet
abbrev pub opening_of : List ℕ → FirstBytes
opening_of [] = Begun
opening_of (high ∷ []) = Begun
opening_of (high ∷ low ∷ rest) = packet_opening (high * 256 + low) rest
