-- The machine value of a `Kept`. Assumes `Logic`.
use Rattle.std.proofs.Common.{◌≡◌, List, [], ◌∷◌, ◌++◌, Option, Some, None, IsSome, refl, subst}
use seplogic.Ra.Ura.{Ura}
use mir.Val.{Val, vstruct, vcons, vnil, of_list}
use types.Logic.{Logic}
use types.Kit.{Item, Goal, Seq, Step, step, ‵, ◌$◌, drop, fsplit, fjoin, fpick, fpack, feq_i, feq_l}
use denote.RattleType.{RattleType, Valss}
use denote.Builtin.{RawPtr}
use denote.RawPtr.{Ptr, ptr_val}
use denote.Steps.{nothing}
use denote.Struct.Struct.{within}
use denote.Struct.Owning.{shape}
use denote.Param.Laws.{Laws}
use Rattle.std.specs.contracts.alloc.Global as global
use Rattle.std.proofs.alloc.Global.TheLaws as global_laws
use Rattle.itchsnap_c.specs.declared.object.Object.{Object}
use Rattle.itchsnap_c.specs.contracts.kept.Kept as kept
use Rattle.itchsnap_c.specs.Owned.{kept_owns}

abbrev pub heap_row : RattleType
heap_row = global.the_row

abbrev pub heap_laws : Laws heap_row
heap_laws = global_laws.the_row_laws

abbrev pub alone : Val → Val
alone v = vstruct (vcons v vnil)

pub some_of : {X : Type 0} (c : Option X) → IsSome c → (m : X) × (c ≡ Some m)
some_of None some = cc
some_of (Some m) some = (m, refl)

module _ {M : Type 1} {𝓤 : Ura M} {𝓛 : Logic 𝓤} {K : Type 0} {Γ : List (Item 𝓤)} {G : Goal 𝓤 𝓛.H} where
  pub kept_out : K → (d : (kept.the_row).Denot) (vs : List Val) → (vs ≡ alone (ptr_val d.at) ∷ [] → Seq K 𝓛 (‵ (kept_owns d.at d.object) ∷ Γ) G) → Seq K 𝓛 (‵ ((kept.the_row).own_val d vs) ∷ Γ) G
  kept_out t d vs k = fsplit t $ fpick t (λ vss. fsplit t $ feq_l t (λ ev. fsplit t $ feq_l t (λ ep. drop t $ k (subst (λ (ps : List Val). vs ≡ vstruct (of_list (ps ++ [])) ∷ []) ep ev))))

  pub kept_in : K → (p : Ptr) (c : Option Object) → Step K 𝓛 (‵ ((kept.the_row).own_val (record { at = p; object = c }) (alone (ptr_val p) ∷ [])) ∷ Γ) G (‵ (kept_owns p c) ∷ Γ) G
  kept_in t p c = step (λ s. let v : Val = alone (ptr_val p) in
      nothing t $ feq_i t (List Val) (ptr_val p ∷ []) (ptr_val p ∷ []) refl $ fjoin t $ feq_i t (List Val) (v ∷ []) (v ∷ []) refl $ fjoin t $
      fpack t (Valss (RawPtr ∷ [])) (within (shape kept.the_type) (p, tt) (v ∷ [])) (ptr_val p ∷ [], tt) $ fjoin t $ s)
