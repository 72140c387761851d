-- Responses of HTTP/1.1.
use Rattle.std.specs.Prelude.{ℕ, ◌==◌, nat_le, Bool, true, false, List, [], ◌∷◌, ◌++◌, length, Option, None, Some, codes, decimal, if◌then◌else◌}
use Rattle.http.specs.StatusCode.{reason_phrase}
use Rattle.httpdate.specs.Date.{date_text}
use Rattle.httpdate.specs.declared.date.HttpDate.{HttpDate}
use Rattle.itch_status.specs.FigureTables.{is_ready}
use Rattle.itch_status.specs.HtmlTexts.{html_text}
use Rattle.itch_status.specs.JsonTexts.{json_text}
use Rattle.itch_status.specs.MetricTexts.{metrics_text}
use Rattle.itch_status.specs.PlainTexts.{plain_text}
use Rattle.itch_status.specs.declared.figures.Figures.{Figures}
use Rattle.itch_status.specs.declared.page.StatusPage.{StatusPage}
use Rattle.itch_status.specs.declared.page.StatusPage.TheVariants.{People, Metrics, Health, Ready, Status, Lines}
use Rattle.itch_status.specs.declared.refusal.RequestRefusal.{RequestRefusal}
use Rattle.itch_status.specs.declared.refusal.RequestRefusal.TheVariants as refusal

-- the status code of a refusal
abbrev pub refusal_code : RequestRefusal → ℕ
refusal_code refusal.BadRequest = 400
refusal_code refusal.NotFound = 404
refusal_code refusal.MethodNotAllowed = 405
refusal_code refusal.TimedOut = 408
refusal_code refusal.TooLarge = 431

-- the phrase of a code, if it has a phrase of at most 40 characters
abbrev pub short_phrase : Option (List ℕ) → List ℕ
short_phrase None = []
short_phrase (Some words) = if nat_le (length words) 40 then words else []

abbrev pub phrase : ℕ → List ℕ
phrase code = short_phrase (reason_phrase code)

-- a code and its phrase
abbrev pub status_text : ℕ → List ℕ
status_text code = decimal code ++ codes " " ++ phrase code

-- the field with the date, if the date is known
abbrev pub date_field : Option HttpDate → List ℕ
date_field None = []
date_field (Some date) = codes "\r\nDate: " ++ date_text date

-- the field with the allowed methods, for a method that is not allowed
abbrev pub allow : ℕ → List ℕ
allow code = if code == 405 then codes "\r\nAllow: GET, HEAD" else []

-- the head of a response with a body of this type and this length
abbrev pub head_text : ℕ → List ℕ → ℕ → Option HttpDate → List ℕ
head_text code kind count date =
    codes "HTTP/1.1 " ++ status_text code ++ codes "\r\nContent-Type: " ++ kind ++ codes "\r\nContent-Length: " ++ decimal count
    ++ date_field date ++ allow code
    ++ codes "\r\nCache-Control: no-store\r\nX-Content-Type-Options: nosniff\r\nContent-Security-Policy: default-src 'none'; style-src 'unsafe-inline'\r\nConnection: close\r\n\r\n"

-- the content type of a page
abbrev pub content_type : StatusPage → List ℕ
content_type People = codes "text/html; charset=utf-8"
content_type Metrics = codes "text/plain; version=0.0.4; charset=utf-8"
content_type Health = codes "text/plain; charset=utf-8"
content_type Ready = codes "text/plain; charset=utf-8"
content_type Status = codes "application/json"
content_type Lines = codes "text/plain; charset=utf-8"

abbrev pub ready_code : Bool → ℕ
ready_code true = 200
ready_code false = 503

abbrev pub ready_words : Bool → List ℕ
ready_words true = codes "ready\n"
ready_words false = codes "not ready\n"

-- the status code of a page: 503 for the question whether the server is ready, if it is not
abbrev pub page_code : StatusPage → Figures → ℕ
page_code People f = 200
page_code Metrics f = 200
page_code Health f = 200
page_code Ready f = ready_code (is_ready f)
page_code Status f = 200
page_code Lines f = 200

-- the body of a page
abbrev pub page_body : StatusPage → Figures → List ℕ → List ℕ
page_body People f version = html_text f version
page_body Metrics f version = metrics_text f version
page_body Health f version = codes "ok\n"
page_body Ready f version = ready_words (is_ready f)
page_body Status f version = json_text f version
page_body Lines f version = plain_text f version

-- the head, and the body unless only the head was requested
abbrev pub with_body : Bool → List ℕ → List ℕ → List ℕ
with_body true head body = head ++ body
with_body false head body = head

-- the response with a page
abbrev pub page_response : StatusPage → Bool → Figures → List ℕ → Option HttpDate → List ℕ
page_response page asked f version date =
    with_body asked (head_text (page_code page f) (content_type page) (length (page_body page f version)) date) (page_body page f version)

-- the response to a request that is not answered with a page: the body states the reason, unless only the head was requested
abbrev pub refusal_response : RequestRefusal → Bool → Option HttpDate → List ℕ
refusal_response why asked date =
    let words = status_text (refusal_code why) ++ codes "\n" in
    with_body asked (head_text (refusal_code why) (codes "text/plain; charset=utf-8") (length words) date) words
