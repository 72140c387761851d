-- The pages of the status port, and the requests for each page.
use Rattle.std.specs.Prelude.{ℕ, ◌==◌, ◌||◌, ◌&&◌, nat_le, Bool, true, false, List, [], ◌∷◌, length, take, drop, Option, None, Some, bytes_eq, codes, if◌then◌else◌}
use Rattle.std.specs.Str.{str_eq_ignore_ascii_case}
use Rattle.httparse.specs.Grammar.{RequestHead}
use Rattle.itch_status.specs.declared.page.StatusPage.{StatusPage}
use Rattle.itch_status.specs.declared.page.StatusPage.TheVariants.{People, Metrics, Health, Ready, Status, Lines}
use Rattle.itch_status.specs.declared.refusal.RequestRefusal.{RequestRefusal}
use Rattle.itch_status.specs.declared.refusal.RequestRefusal.TheVariants as refusal
use Rattle.itch_status.specs.declared.request.StatusAnswer.{StatusAnswer}
use Rattle.itch_status.specs.declared.request.StatusAnswer.TheVariants as answer

-- the part of a target before its query
abbrev pub before_query : List ℕ → List ℕ
before_query [] = []
before_query (byte ∷ bytes) = if byte == 63 then [] else byte ∷ before_query bytes

-- a target is in absolute form, such as `http://host:8080/metrics`: it begins with the scheme, in upper or lower case
abbrev pub is_absolute : List ℕ → Bool
is_absolute target = nat_le 7 (length target) && str_eq_ignore_ascii_case (take 7 target) (codes "http://")

-- the part of a target after the host and its port: it begins with the `/` of the path, or with the `?` of the query
abbrev pub after_host : List ℕ → List ℕ
after_host [] = []
after_host (byte ∷ bytes) = if byte == 47 || byte == 63 then byte ∷ bytes else after_host bytes

-- an empty path is `/`
abbrev pub or_root : List ℕ → List ℕ
or_root [] = codes "/"
or_root (byte ∷ bytes) = byte ∷ bytes

-- the path of a target in either form
abbrev pub path_of : List ℕ → List ℕ
path_of target = if is_absolute target then or_root (before_query (after_host (drop 7 target))) else before_query target

-- the page of a path
abbrev pub page_at : List ℕ → Option StatusPage
page_at path =
    if bytes_eq path (codes "/") then Some People
    else (if bytes_eq path (codes "/metrics") then Some Metrics
    else (if bytes_eq path (codes "/healthz") then Some Health
    else (if bytes_eq path (codes "/readyz") then Some Ready
    else (if bytes_eq path (codes "/status") then Some Status
    else (if bytes_eq path (codes "/status.txt") then Some Lines else None)))))

-- the page of a target
unfoldable pub page_of : List ℕ → Option StatusPage
page_of target = page_at (path_of target)

-- a refusal with a body, for a request whose method is not HEAD or is not known
abbrev pub refused : RequestRefusal → StatusAnswer
refused why = answer.Refused why true

-- a page, or the refusal if there is no page; both with a body or without one
abbrev pub page_answer : Bool → Option StatusPage → StatusAnswer
page_answer body None = answer.Refused refusal.NotFound body
page_answer body (Some page) = answer.Page page body

-- the answer to a request with this method and this target
abbrev pub method_answer : List ℕ → List ℕ → StatusAnswer
method_answer method target =
    if bytes_eq method (codes "GET") then page_answer true (page_of target)
    else (if bytes_eq method (codes "HEAD") then page_answer false (page_of target)
    else refused refusal.MethodNotAllowed)

-- the answer to a request with this head
abbrev pub answer_of : RequestHead → StatusAnswer
answer_of head = method_answer head.method head.target
