-- The words of codes.
use Rattle.std.specs.Prelude.{◌≡◌, ◌==◌, ℕ, nat_lt, List, [], ◌∷◌, ◌++◌, codes, Option, Some, None, if◌then◌else◌}
use Rattle.itchsnap_c.specs.declared.answers.Written.{Written}
use Rattle.itchsnap_c.specs.Snapshots.{Copies, unwritten}

-- the words, with a zero byte after them
abbrev pub ended : List ℕ → Option (List ℕ)
ended words = Some (words ++ 0 ∷ [])

-- the codes of a payload
abbrev pub payload_reason : ℕ → Option (List ℕ)
payload_reason code =
    if code == 0 then ended (codes "ok") else (
    if code == 1 then ended (codes "empty message") else (
    if code == 2 then ended (codes "wrong length") else (
    if code == 3 then ended (codes "bad text") else (
    if code == 4 then ended (codes "bad side") else (
    if code == 5 then ended (codes "bad number") else (
    None))))))

-- the codes of the order rules
abbrev pub rule_reason : ℕ → Option (List ℕ)
rule_reason code =
    if code == 16 then ended (codes "unknown locate") else (
    if code == 17 then ended (codes "stock mismatch") else (
    if code == 18 then ended (codes "zero shares") else (
    if code == 19 then ended (codes "duplicate reference") else (
    if code == 20 then ended (codes "unknown reference") else (
    if code == 21 then ended (codes "locate mismatch") else (
    if code == 22 then ended (codes "too many shares") else (
    if code == 23 then ended (codes "unexpected end") else (
    None))))))))

-- the codes of files
abbrev pub file_reason : ℕ → Option (List ℕ)
file_reason code =
    if code == 32 then ended (codes "truncated") else (
    if code == 33 then ended (codes "too many messages") else (
    if code == 34 then ended (codes "read failed") else (
    if code == 35 then ended (codes "no end of snapshot") else (
    if code == 36 then ended (codes "message after end of snapshot") else (
    if code == 37 then ended (codes "too few messages") else (
    None))))))

-- the codes of calls
abbrev pub call_reason : ℕ → Option (List ℕ)
call_reason code =
    if code == 48 then ended (codes "out of memory") else (
    if code == 49 then ended (codes "no room") else (
    if code == 50 then ended (codes "wrong handle") else (
    if code == 51 then ended (codes "handle in use") else (
    if code == 52 then ended (codes "absent") else (
    if code == 53 then ended (codes "not joined") else (
    if code == 54 then ended (codes "no number") else (
    None)))))))

-- the codes of joiners
abbrev pub joiner_reason : ℕ → Option (List ℕ)
joiner_reason code =
    if code == 64 then ended (codes "kept") else (
    if code == 65 then ended (codes "applied") else (
    if code == 66 then ended (codes "old message") else (
    if code == 67 then ended (codes "more follows") else (
    if code == 68 then ended (codes "joined") else (
    if code == 72 then ended (codes "full") else (
    if code == 73 then ended (codes "conflict") else (
    if code == 74 then ended (codes "bad message number") else (
    if code == 75 then ended (codes "halted") else (
    if code == 76 then ended (codes "already joined") else (
    if code == 77 then ended (codes "taken, out of memory") else (
    if code == 78 then ended (codes "bad snapshot") else (
    None))))))))))))

-- the codes of sessions
abbrev pub session_reason : ℕ → Option (List ℕ)
session_reason code =
    if code == 80 then ended (codes "login accepted") else (
    if code == 81 then ended (codes "login rejected") else (
    if code == 82 then ended (codes "message") else (
    if code == 83 then ended (codes "session ended") else (
    if code == 84 then ended (codes "logged out") else (
    if code == 85 then ended (codes "heartbeat due") else (
    if code == 86 then ended (codes "connection lost") else (
    if code == 96 then ended (codes "unknown packet type") else (
    if code == 97 then ended (codes "packet from the wrong side") else (
    if code == 98 then ended (codes "second login") else (
    if code == 99 then ended (codes "packet before the login") else (
    if code == 100 then ended (codes "session closed") else (
    if code == 101 then ended (codes "broken session") else (
    None)))))))))))))

-- the words of a code, with a zero byte after them
abbrev pub reason : ℕ → Option (List ℕ)
reason code =
    if nat_lt code 16 then payload_reason code else (
    if nat_lt code 32 then rule_reason code else (
    if nat_lt code 48 then file_reason code else (
    if nat_lt code 64 then call_reason code else (
    if nat_lt code 80 then joiner_reason code else (
    session_reason code)))))

-- the words are at the front of the memory, or there is no room for them, or no such code
abbrev pub TellsWords : Option (List ℕ) → List ℕ → Written → List ℕ → Type 0
TellsWords (Some words) old written new = Copies words old written new
TellsWords None old written new = (written ≡ unwritten 52) × (new ≡ old)

abbrev pub Tells : ℕ → List ℕ → Written → List ℕ → Type 0
Tells code old written new = TellsWords (reason code) old written new
