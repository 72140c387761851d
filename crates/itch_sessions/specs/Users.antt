-- The users of a server, and how the logins of its clients are judged.
use Rattle.std.specs.Prelude.{◌≡◌, ℕ, ◌<◌, ◌==◌, ◌&&◌, Bool, List, length, Option, None, Some, Result, Ok, Err}
use Rattle.std.specs.List.{find, position_or_len, before_first, after_first}
use Rattle.itch_soup.specs.declared.login.ServerConfig.{ServerConfig}
use Rattle.itch_soup.specs.declared.packet.LoginRequest.{LoginRequest}
use Rattle.itch_soup.specs.declared.packet.Packet.{Packet}
use Rattle.itch_soup.specs.declared.packet.Packet.TheVariants as is
use Rattle.itch_soup.specs.declared.server.ServerAct.{ServerAct}
use Rattle.itch_soup.specs.declared.server.ServerAct.TheVariants as act
use Rattle.itch_soup.specs.Names.{is_same_name}
use Rattle.itch_soup.specs.Servers.{judged, not_authorised, not_available}
use Rattle.itch_sessions.specs.declared.session_fault.SessionFault.TheVariants as session_fault
use Rattle.itch_sessions.specs.declared.sessions.login.Login.{Login}
use Rattle.itch_sessions.specs.declared.users.Verdict.{Verdict}
use Rattle.itch_sessions.specs.declared.users.Verdict.TheVariants.{Waits, Accepted, Rejected, Left, Fault}
use Rattle.itch_sessions.specs.declared.users.LineFault.{LineFault}
use Rattle.itch_sessions.specs.declared.users.LineFault.TheVariants.{NoColon, BadUser, BadPassword}
use Rattle.itch_sessions.specs.Logins.{ReadsLogin}

-- a login has the name and the password of a user
abbrev pub is_login_of : LoginRequest → Login → Bool
is_login_of login user = is_same_name user.username login.username && is_same_name user.password login.password

-- the configuration of a server of this session with this single user
abbrev pub config_of : List ℕ → Login → ServerConfig
config_of session user = record { username = user.username; password = user.password; session = session }

abbrev pub verdict_by : ServerConfig → ServerAct → Verdict
verdict_by config (act.Accept next) = Accepted config
verdict_by config (act.Reject code) = Rejected code
verdict_by config other = Rejected not_available

-- the login of one of the users is judged as at a server with this single user; any other login is not authorised
abbrev pub verdict_for : Option Login → List ℕ → ℕ → LoginRequest → Verdict
verdict_for None session total login = Rejected not_authorised
verdict_for (Some user) session total login = verdict_by (config_of session user) (judged (config_of session user) total login).0

-- the outcome of a packet from a client that has not logged in
abbrev pub opening_verdict : List Login → List ℕ → ℕ → Packet → Verdict
opening_verdict users session total (is.Debug text) = Waits
opening_verdict users session total (is.UnsequencedData payload) = Waits
opening_verdict users session total is.ClientHeartbeat = Waits
opening_verdict users session total is.LogoutRequest = Left
opening_verdict users session total (is.LoginRequest login) = verdict_for (find (is_login_of login) users) session total login
opening_verdict users session total packet = Fault

abbrev pub is_colon : ℕ → Bool
is_colon byte = byte == 58

abbrev pub HasColon : List ℕ → Type 0
HasColon line = position_or_len is_colon line < length line

-- the user name of a line is before its first colon, and the password after it; or the first of them that is invalid is the fault
abbrev pub ReadsLine : List ℕ → Result Login LineFault → Type 0
ReadsLine line (Ok login) = HasColon line × ReadsLogin (before_first is_colon line) (after_first is_colon line) (Ok login)
ReadsLine line (Err NoColon) = position_or_len is_colon line ≡ length line
ReadsLine line (Err BadUser) = HasColon line × ReadsLogin (before_first is_colon line) (after_first is_colon line) (Err session_fault.BadUser)
ReadsLine line (Err BadPassword) = HasColon line × ReadsLogin (before_first is_colon line) (after_first is_colon line) (Err session_fault.BadPassword)
