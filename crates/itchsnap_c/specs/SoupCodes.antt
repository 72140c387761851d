-- The numbers of a session's actions.
use Rattle.std.specs.Prelude.{ℕ}
use Rattle.itch_soup.specs.declared.client.ClientAct.{ClientAct}
use Rattle.itch_soup.specs.declared.client.ClientAct.TheVariants as client
use Rattle.itch_soup.specs.declared.connection.Tick.{Tick}
use Rattle.itch_soup.specs.declared.connection.Tick.TheVariants as tick
use Rattle.itch_soup.specs.declared.fault.SoupFault.{SoupFault}
use Rattle.itch_soup.specs.declared.fault.SoupFault.TheVariants as fault
use Rattle.itch_soup.specs.declared.server.ServerAct.{ServerAct}
use Rattle.itch_soup.specs.declared.server.ServerAct.TheVariants as server
use Rattle.itchsnap_c.specs.declared.answers.Act.{Act}
use Rattle.itchsnap_c.specs.declared.answers.Answer.{Answer}
use Rattle.itchsnap_c.specs.Codes.{coded, done}

-- a code, and its number and detail
abbrev pub act : ℕ → ℕ → ℕ → Act
act code number detail = record { number = number; detail = detail; code = code }

abbrev pub soup_fault_act : SoupFault → Act
soup_fault_act fault.EmptyPacket = act 1 0 0
soup_fault_act (fault.WrongLength kind want got) = act 2 0 want
soup_fault_act (fault.BadText offset) = act 3 0 offset
soup_fault_act (fault.BadNumber offset) = act 5 0 offset
soup_fault_act fault.TooManyMessages = act 33 0 0
soup_fault_act (fault.UnknownType kind) = act 96 0 kind
soup_fault_act (fault.WrongSide kind) = act 97 0 kind
soup_fault_act fault.SecondLogin = act 98 0 0
soup_fault_act (fault.Early kind) = act 99 0 kind
soup_fault_act fault.Closed = act 100 0 0
soup_fault_act (fault.Frame frame) = act 101 0 0
soup_fault_act (fault.Rejected code) = act 101 0 0
soup_fault_act (fault.WrongStart next asked) = act 101 0 0
soup_fault_act fault.EndedEarly = act 101 0 0
soup_fault_act (fault.Snapshot why) = act 101 0 0

-- the meaning of a packet for a client; the bytes of a message follow the first byte of its packet
abbrev pub client_act : ClientAct → Act
client_act (client.Accepted next) = act 80 next 0
client_act (client.Rejected code) = act 81 0 code
client_act (client.Data number payload) = act 82 number 0
client_act client.Nothing = act 0 0 0
client_act client.Ended = act 83 0 0
client_act (client.Fault f) = soup_fault_act f

-- the action of a server
abbrev pub server_act : ServerAct → Act
server_act (server.Accept next) = act 80 next 0
server_act (server.Reject code) = act 81 0 code
server_act server.Nothing = act 0 0 0
server_act server.Close = act 84 0 0
server_act (server.Fault f) = soup_fault_act f

-- the action due
abbrev pub tick_answer : Tick → Answer
tick_answer tick.Nothing = done
tick_answer tick.Heartbeat = coded 85 0
tick_answer tick.Lost = coded 86 0
