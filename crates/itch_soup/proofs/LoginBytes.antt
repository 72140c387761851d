-- The bytes of a login and of its acceptance, which encode them.
use Rattle.std.proofs.Common.{◌≡◌, ℕ, ◌+◌, ◌-◌, ◌<◌, ◌≤◌, ◌^◌, Bool, true, false, MatchBool, List, [], ◌∷◌, ◌++◌, length, take, refl, sym, ap, ◌∙◌, subst, arith, rules}
use Rattle.std.specs.Prelude.{slice_range}
use Rattle.std.specs.List.{list_all}
use Rattle.std.specs.Char.{is_ascii_digit}
use Rattle.std.specs.Str.{all_ascii_digits}
use Rattle.std.proofs.lemmas.Bool.{and_parts}
use Rattle.std.proofs.lemmas.Bool.Decides.{nat_tests}
use Rattle.std.proofs.lemmas.List.{append_assoc, append-nil, take_at, drop_at, take_all, length-append}
use Rattle.std.proofs.lemmas.List.Folds.{list_all-append}
use Rattle.std.proofs.lemmas.Slice.{take-put_mid}
use Rattle.itch_codec.specs.Numbers.{slice_at, dec20, is_space, SpellsNumber, IsNumber}
use Rattle.itch_codec.specs.Fields.{IsAlpha}
use Rattle.itch_codec.proofs.Numbers.{dec20-spells, length-dec20}
use Rattle.itch_soup.specs.declared.origin.Origin.TheVariants.{Client, Server}
use Rattle.itch_soup.specs.declared.packet.LoginRequest.{LoginRequest}
use Rattle.itch_soup.specs.declared.packet.LoginAccepted.{LoginAccepted}
use Rattle.itch_soup.specs.declared.packet.Packet.TheVariants as is
use Rattle.itch_soup.specs.Packets.{Requests, PacketSpells, packet_spelling}

pub ruleset putting = (take-put_mid)

-- a block whose fields were written in order consists of their bytes
pub written : (named passed asked block user password session number : List ℕ) → length block ≡ 47 → take 7 named ≡ 76 ∷ user
    → take 17 passed ≡ take 7 named ++ password
    → take 27 asked ≡ take 17 passed ++ session → take 47 block ≡ take 27 asked ++ number
    → block ≡ 76 ∷ (user ++ (password ++ (session ++ (number ++ []))))
written named passed asked block user password session number long e1 e2 e3 e4 =
    sym (take_all 47 block (omega arith)) ∙ rw (e4, e3, e2, e1) (simp (append_assoc, append-nil))

-- a field after this many bytes
field_at : (offset width : ℕ) (front field rest block : List ℕ) → length front ≡ offset → length field ≡ width → block ≡ front ++ (field ++ rest)
    → field ≡ slice_at offset width block
unfolding slice_at
field_at offset width front field rest block start long whole =
    let size : (offset + width) - offset ≡ width = omega arith in
    sym (ap (λ bytes. slice_range bytes offset (offset + width)) whole
    ∙ ap (λ bytes. take ((offset + width) - offset) bytes) (drop_at front (field ++ rest) offset start)
    ∙ take_at field rest ((offset + width) - offset) (long ∙ sym size))

digit_no_space : (d : ℕ) → is_ascii_digit d ≡ true → is_space d ≡ true → ⊥
digit_no_space d h k = grind (arith, nat_tests)

digits_no_spaces : (digits : List ℕ) → 0 < length digits → all_ascii_digits digits ≡ true → list_all is_space digits ≡ true → ⊥
digits_no_spaces [] some digits spaces = omega (arith, some)
digits_no_spaces (d ∷ ds) some digits spaces = digit_no_space d (and_parts _ _ digits).0 (and_parts _ _ spaces).0

not_blank : (field left digits right : List ℕ) (n : ℕ) (b : Bool) → IsNumber field n left digits right → list_all is_space field ≡ b → b ≡ false
not_blank field left digits right n false h e = refl
not_blank field left digits right n true h e =
    let whole = sym (ap (λ bytes. list_all is_space bytes) h.whole) ∙ e in
    let parts = and_parts (list_all is_space left) _ (sym (list_all-append is_space left (digits ++ right)) ∙ whole) in
    let rest = and_parts (list_all is_space digits) _ (sym (list_all-append is_space digits right) ∙ parts.1) in
    absurd (digits_no_spaces digits h.some_digit (search rules) rest.0)

-- a field with a number is not blank
spelled-not_blank : (field : List ℕ) (n : ℕ) → SpellsNumber field n → list_all is_space field ≡ false
spelled-not_blank field n (left, digits, right, h) = not_blank field left digits right n _ h refl

requested_by : (field : List ℕ) (n : ℕ) (b : Bool) → list_all is_space field ≡ b → b ≡ false → SpellsNumber field n → MatchBool b (n ≡ 0) (SpellsNumber field n)
requested_by field n true e blank h = absurd (cc)
requested_by field n false e blank h = h

-- a number in twenty digits requests that number
dec20-requests : (n : ℕ) → n ≤ 10 ^ 19 → Requests (dec20 n) n
dec20-requests n h =
    let spells = dec20-spells n h in requested_by (dec20 n) n _ refl (spelled-not_blank (dec20 n) n spells) spells

-- the bytes written for a login encode it
pub login-spelled : (login : LoginRequest) (block : List ℕ) → IsAlpha 6 login.username → IsAlpha 10 login.password → IsAlpha 10 login.session
    → login.number ≤ 10 ^ 19 → block ≡ packet_spelling (is.LoginRequest login) → PacketSpells (is.LoginRequest login) block Client
login-spelled login block user password session number e =
    let u = login.username in
    let p = login.password in
    let s = login.session in
    let d = dec20 login.number in
    let long : length d ≡ 20 = length-dec20 login.number (omega arith) in
    let lu : length u ≡ 6 = user.0 in
    let lp : length p ≡ 10 = password.0 in
    let ls : length s ≡ 10 = session.0 in
    record {
      first = rw e refl;
      side = refl;
      size = rw e (simp length-append (omega arith));
      parts = (
        (field_at 1 6 (76 ∷ []) u (p ++ (s ++ (d ++ []))) block refl lu e, user.1),
        (
          (field_at 7 10 (76 ∷ u) p (s ++ (d ++ [])) block (omega arith) lp e, password.1),
          (
            (field_at 17 10 (76 ∷ (u ++ p)) s (d ++ []) block (simp length-append (omega arith)) ls (e ∙ simp append_assoc), session.1),
            (
              subst (λ field. Requests field login.number)
                  (field_at 27 20 (76 ∷ (u ++ (p ++ s))) d [] block (simp length-append (omega arith)) long (e ∙ simp append_assoc))
                  (dec20-requests login.number number),
              tt,
            ),
          ),
        ),
      );
    }

-- the same for an acceptance
pub accepted_written : (named block session number : List ℕ) → length block ≡ 31 → take 11 named ≡ 65 ∷ session → take 31 block ≡ take 11 named ++ number
    → block ≡ 65 ∷ (session ++ (number ++ []))
accepted_written named block session number long e1 e2 = sym (take_all 31 block (omega arith)) ∙ rw (e2, e1) (simp append-nil)

pub acceptance-spelled : (login : LoginAccepted) (block : List ℕ) → IsAlpha 10 login.session → 1 ≤ login.next → login.next ≤ 10 ^ 19
    → block ≡ packet_spelling (is.LoginAccepted login) → PacketSpells (is.LoginAccepted login) block Server
acceptance-spelled login block session least most e =
    let s = login.session in
    let d = dec20 login.next in
    let long : length d ≡ 20 = length-dec20 login.next (omega arith) in
    let ls : length s ≡ 10 = session.0 in
    record {
      first = rw e refl;
      side = refl;
      size = rw e (simp length-append (omega arith));
      parts = (
        (field_at 1 10 (65 ∷ []) s (d ++ []) block refl ls e, session.1),
        (
          (
            subst (λ field. SpellsNumber field login.next) (field_at 11 20 (65 ∷ s) d [] block (omega arith) long e) (dec20-spells login.next (omega arith)),
            least,
          ),
          tt,
        ),
      );
    }
