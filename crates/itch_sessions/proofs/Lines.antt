-- The connections answered so far and their lines, and one more.
use Rattle.std.proofs.Common.{◌≡◌, ℕ, ◌+◌, ◌<◌, List, [], ◌∷◌, ◌++◌, length, Option, Ok, Err, refl, sym, ap, subst, ◌∙◌, append_assoc, append-nil, arith, length-append, inl, inr}
use Rattle.std.proofs.KnownBytes.{Appends-nil, Appends-trans}
use Rattle.std.specs.Io.KnownBytes.{Appends}
use Rattle.itch_book.proofs.Lists.{All-append_rec}
use Rattle.itch_frame.specs.declared.tally.Failures.{Failures}
use Rattle.itch_market.specs.Content.{Content}
use Rattle.itch_soup.specs.declared.login.ServerConfig.{ServerConfig}
use Rattle.itch_sessions.specs.declared.session_fault.SessionFault.{SessionFault}
use Rattle.itch_sessions.specs.Sessions.{Ending, connection_line, connection_lines, IsEnding, ServesNext, ServesAll, ServesOn}

lines_push : (n : ℕ) (endings : List Ending) (ending : Ending)
    → connection_lines n (endings ++ ending ∷ []) ≡ connection_lines n endings ++ connection_line (n + length endings) ending
lines_push n [] ending = let here : n ≡ n + 0 = omega arith in append-nil (connection_line n ending) ∙ ap (λ k. connection_line k ending) here
lines_push n (first ∷ endings) ending =
    let count : n + 1 + length endings ≡ n + length (first ∷ endings) = omega arith in
    ap (λ t. connection_line n first ++ t) (lines_push (n + 1) endings ending)
    ∙ ap (λ k. connection_line n first ++ (connection_lines (n + 1) endings ++ connection_line k ending)) count
    ∙ sym (append_assoc (connection_line n first) (connection_lines (n + 1) endings) (connection_line (n + length (first ∷ endings)) ending))

module _ {S W : Type 0} (remaining : S → Option (List ℕ)) (taken : S → Option (List ℕ)) (contents : W → Option (List ℕ)) (failures : W → Failures) (m : Content) (next : ℕ) (config : ServerConfig) where
  -- `count` connections were answered
  pub record AreServed (old : W) (count : ℕ) (mid : W) : Type 0 where
    pub endings : List Ending
    pub counted : length endings ≡ count
    pub all : ServesAll remaining taken contents failures m next config endings old mid

  pub none_served : (old : W) → AreServed old 0 old
  none_served old = record { endings = []; counted = refl; all = (tt, (Appends-nil (contents old), refl)) }

  pub one_served : (old mid new : W) (count : ℕ) → AreServed old count mid → ServesNext remaining taken contents failures m next config (count + 1) mid (Ok tt) new → AreServed old (count + 1) new
  one_served old mid new count so_far (inl (ending, is, wrote)) =
      let number : count + 1 ≡ 1 + length so_far.endings = omega (arith, so_far.counted) in
      let bytes : connection_lines 1 so_far.endings ++ connection_line (count + 1) ending ≡ connection_lines 1 (so_far.endings ++ ending ∷ []) =
      ap (λ k. connection_lines 1 so_far.endings ++ connection_line k ending) number ∙ sym (lines_push 1 so_far.endings ending) in
      record {
        endings = so_far.endings ++ ending ∷ [];
        counted = omega (arith, so_far.counted, length-append so_far.endings (ending ∷ []));
        all = (
          All-append_rec (IsEnding remaining taken m next config) so_far.endings (ending ∷ []) so_far.all.0 (is, tt),
          (
            subst (Appends (contents old) (contents new)) bytes
                (Appends-trans (contents old) (contents mid) (contents new) (connection_lines 1 so_far.endings) (connection_line (count + 1) ending) so_far.all.1.0 wrote.0),
            wrote.1 ∙ so_far.all.1.1,
          ),
        );
      }
  one_served old mid new count so_far (inr (fault, is, unserved, same)) = absurd (let no_one : ⊥ = cc in no_one)

  -- the next connection failed
  pub serving_failed : (old mid new : W) (count total : ℕ) (fault : SessionFault) → AreServed old count mid → count < total
      → ServesNext remaining taken contents failures m next config (count + 1) mid (Err fault) new → ServesOn remaining taken contents failures m next config total old (Err fault) new
  serving_failed old mid new count total fault so_far within served = (
    so_far.endings,
    mid,
    subst (λ k. k < total) (sym so_far.counted) within,
    so_far.all,
    subst (λ k. ServesNext remaining taken contents failures m next config (k + 1) mid (Err fault) new) (sym so_far.counted) served,
  )
