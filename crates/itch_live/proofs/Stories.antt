-- The bytes sent to a client.
use Rattle.std.proofs.Common.{ℕ, List, [], ◌∷◌, ◌++◌, Option, None, Some, refl, sym, ap, subst, inl, inr}
use Rattle.itch_soup.specs.declared.login.ServerConfig.{ServerConfig}
use Rattle.itch_soup.specs.declared.packet.LoginRequest.{LoginRequest}
use Rattle.itch_live.specs.SnapshotClients.{SnapshotClient, refusal}
use Rattle.itch_live.specs.Stories.{Happening, Hears, Answers, Takes, Ticks, Leaves, Story, IsAnswer, IsRefusal, IsWelcome, IsTold, IsSentRight}
use Rattle.itch_live.proofs.Sound.{Kind, Refused, Greeted, Answered, IsWhole, rest_of, IsSound, Permits, Rejects, Greets, new_sound, weaken, step}

-- the bytes that may be sent to a client
abbrev pub MayBeTold : ServerConfig → ℕ → List Happening → Kind → Type 0
MayBeTold config begun past (Refused code) = IsRefusal config begun past (refusal code)
MayBeTold config begun past Greeted = IsWelcome config begun past
MayBeTold config begun past (Answered bytes) = IsAnswer config begun past bytes

still_told : (config : ServerConfig) (begun : ℕ) (e : Happening) (past : List Happening) (k : Kind) → MayBeTold config begun past k → MayBeTold config begun (e ∷ past) k
still_told config begun e past Greeted w = record {
  later = e ∷ w.later;
  before = w.before;
  piece = w.piece;
  now = w.now;
  count = w.count;
  place = ap (λ es. e ∷ es) w.place;
  hearing = w.hearing;
  so_far = w.so_far;
  story = w.story;
  login = w.login;
  came = w.came;
  accepted = w.accepted;
}
still_told config begun e past (Refused code) r = record {
  later = e ∷ r.later;
  before = r.before;
  piece = r.piece;
  now = r.now;
  count = r.count;
  place = ap (λ es. e ∷ es) r.place;
  hearing = r.hearing;
  so_far = r.so_far;
  story = r.story;
  login = r.login;
  came = r.came;
  code = r.code;
  rejected = r.rejected;
  is = r.is;
}
still_told config begun e past (Answered bytes) a = record {
  later = e ∷ a.later;
  before = a.before;
  m = a.m;
  next = a.next;
  now = a.now;
  place = ap (λ es. e ∷ es) a.place;
  waiting = a.waiting;
  so_far = a.so_far;
  story = a.story;
  login = a.login;
  asked = a.asked;
  accepted = a.accepted;
  is = a.is;
}

-- an answer that is passed in now
permitted : (config : ServerConfig) (begun : ℕ) (past : List Happening) (g : SnapshotClient) (so_far : List ℕ) (e : Happening) → Story config begun past g so_far
    → Permits config (MayBeTold config begun (e ∷ past)) g e
permitted config begun past g so_far (Hears piece now n) story = tt
permitted config begun past g so_far (Answers m next now) story = λ login asked accepted. record {
  later = [];
  before = past;
  m = m;
  next = next;
  now = now;
  place = refl;
  waiting = g;
  so_far = so_far;
  story = story;
  login = login;
  asked = asked;
  accepted = accepted;
  is = refl;
}
permitted config begun past g so_far (Takes count now) story = tt
permitted config begun past g so_far (Ticks now) story = tt
permitted config begun past g so_far Leaves story = tt

-- a rejection now
refused_now : (config : ServerConfig) (begun : ℕ) (past : List Happening) (g : SnapshotClient) (so_far : List ℕ) (e : Happening) → Story config begun past g so_far
    → Rejects config (MayBeTold config begun (e ∷ past)) g e
refused_now config begun past g so_far (Hears piece now n) story = λ login code came rejected. record {
  later = [];
  before = past;
  piece = piece;
  now = now;
  count = n;
  place = refl;
  hearing = g;
  so_far = so_far;
  story = story;
  login = login;
  came = came;
  code = code;
  rejected = rejected;
  is = refl;
}
refused_now config begun past g so_far (Answers m next now) story = tt
refused_now config begun past g so_far (Takes count now) story = tt
refused_now config begun past g so_far (Ticks now) story = tt
refused_now config begun past g so_far Leaves story = tt

-- an acceptance now
greeted_now : (config : ServerConfig) (begun : ℕ) (past : List Happening) (g : SnapshotClient) (so_far : List ℕ) (e : Happening) → Story config begun past g so_far
    → Greets config (MayBeTold config begun (e ∷ past)) g e
greeted_now config begun past g so_far (Hears piece now n) story = λ login came accepted. record {
  later = [];
  before = past;
  piece = piece;
  now = now;
  count = n;
  place = refl;
  hearing = g;
  so_far = so_far;
  story = story;
  login = login;
  came = came;
  accepted = accepted;
}
greeted_now config begun past g so_far (Answers m next now) story = tt
greeted_now config begun past g so_far (Takes count now) story = tt
greeted_now config begun past g so_far (Ticks now) story = tt
greeted_now config begun past g so_far Leaves story = tt

pub sound : (config : ServerConfig) (begun : ℕ) (past : List Happening) (g : SnapshotClient) (sent : List ℕ) → Story config begun past g sent → IsSound config (MayBeTold config begun past) sent g
sound config begun [] g sent (is, none) =
    subst (λ x. IsSound config (MayBeTold config begun []) x g) (sym none)
    (subst (λ x. IsSound config (MayBeTold config begun []) [] x) (sym is) (new_sound config (MayBeTold config begun []) begun))
sound config begun (e ∷ past) g sent (f, so_far, story, becomes, is) =
    subst (λ x. IsSound config (MayBeTold config begun (e ∷ past)) x g) (sym is)
    (step config (MayBeTold config begun (e ∷ past)) so_far f g e becomes (permitted config begun past f so_far e story) (refused_now config begun past f so_far e story)
    (greeted_now config begun past f so_far e story) (weaken config _ _ so_far f (still_told config begun e past) (sound config begun past f so_far story)))

told_all : (config : ServerConfig) (begun : ℕ) (past : List Happening) (asked : Option LoginRequest) (rejection : Option ℕ) (told : Option (List ℕ)) (bytes : List ℕ)
    → IsWhole config (MayBeTold config begun past) asked rejection told bytes → IsTold config begun past bytes
told_all config begun past None None told bytes is = inl is
told_all config begun past None (Some code) told bytes (refused, is) = inr (inl (subst (IsRefusal config begun past) (sym is) refused))
told_all config begun past (Some login) rejection None bytes (beats, welcomed, is) = inr (inr (inl (beats, welcomed, is)))
told_all config begun past (Some login) rejection (Some rest) bytes (beats, answer, is) = inr (inr (inr (beats, rest, answer, is)))

pub sent_right : (config : ServerConfig) (begun : ℕ) (past : List Happening) (g : SnapshotClient) (sent : List ℕ) → Story config begun past g sent → IsSentRight config begun past sent
sent_right config begun past g sent story =
    (sent ++ rest_of g, told_all config begun past g.asked g.rejection g.told (sent ++ rest_of g) (sound config begun past g sent story).whole, (rest_of g, refl))
