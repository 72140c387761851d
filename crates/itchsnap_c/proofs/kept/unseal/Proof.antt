-- The walk of `unseal`, by hand for the same reasons as `seal`.
use Rattle.std.proofs.Common.{◌≡◌, List, [], ◌∷◌, ◌++◌, Some, IsSome, refl, sym, subst, lit<}
use mir.Raw.{raw as bare}
use mir.Val.{Val, vptr}
use base.Logic.{SProp, ent, emp, never, id⊢, fst∗}
use base.Fml.{ftrue}
use prog.Wp.{WpFn}
use types.Logic.{sem}
use types.Kit.{‵, raw, ◌⊛◌, ◌$◌, ◌∵◌, !, qed, by, move, keep, split, fsplit, fjoin, suffices, use0, rewrite}
use types.Run.{stop, fld, of_opd, no_more, and_then, returns, enter}
use types.ByLocal.{alloc_all, pass_all, free_all, look_at, get, get_in, sets}
use types.Part.{agg, sub, whole}
use contract.Monad.{fact, fact_i}
use contract.Running.{tables}
use denote.Exit.{yes}
use denote.Memory.{lone}
use denote.RattleType.{owns}
use denote.Signature.{types_at, plain}
use denote.RawPtr.{Ptr, block_ptr, null_ptr, ptr_val, in_a_block}
use denote.Steps.{nothing, heard}
use denote.Triple.Walked.{Stays, stay_dropped, walk_of}
use Rattle.std.proofs.alloc.Calls.{Goes-blank, handle_tells}
use Rattle.std.specs.contracts.impls.GlobalAllocator.TheImpl as heap
use Rattle.std.proofs.raw_atomic.Walks.{proved_at, leaves}
use Rattle.itchsnap_c.specs.declared.object.Object.{Object}
use Rattle.itchsnap_c.specs.contracts.kept.Kept as kept
use Rattle.itchsnap_c.specs.Owned.{object_row, kept_owns}
use Rattle.itchsnap_c.proofs.Values.{al, both, loose_good, loose_in}
use Rattle.itchsnap_c.proofs.Pointers.{heap_row, heap_laws, alone, some_of, kept_out}
use Rattle.itchsnap_c.specs.contracts.kept.unseal as f
use Rattle.itchsnap_c.proofs.kept.unseal.Statement.{statement}
use Rattle.itchsnap_c.proofs.kept.unseal.Code as code

abbrev token : Ptr → base.Fml.Fml
token p = heap.ghosts.dealloc_token (record { memory = record { seal = tt } }) (bare (lone object_row.mir)) p

pub unseal_spec : {M : Type 1} → statement M
unseal_spec 𝓤 𝓛 𝓜 𝓡 wired =
    let H = 𝓛.H in let 𝓣 = tables 𝓤 H 𝓜 𝓡 𝓡.env in let c = f.clauses 𝓛 𝓜.mem 𝓡.returns in
    let hs : Stays f.ended.signature.params f.ended.kept = (stay_dropped (plain (λ _. heap_row)) yes, (stay_dropped (plain (λ _. kept.the_row)) yes, tt)) in
    proved_at 𝓛 f.ended hs c 𝓜 𝓡 (Goes-blank 𝓛 0 (plain (λ _. heap_row)) yes (λ κs x f. tt), (Goes-blank 𝓛 0 (plain (λ _. kept.the_row)) yes (λ κs x f. tt), tt)) f.Key.name code.function (code.unfolded 𝓤 H 𝓜 𝓡 wired) (λ z are.
    let a = z.0.3.0 in let d = z.0.3.1.0 in let Post : Val → SProp 𝓤 = (walk_of 𝓛 f.ended hs c).post z in let Run : List Val → SProp 𝓤 = λ ws. WpFn 𝓤 H 𝓣.C 𝓣.Λ code.function ws Post in
    qed 𝓛 ((‵ ftrue ⊛ ‵ (owns (types_at f.ended.signature.params z.0.0) z.0.3 z.0.4)) ∷ raw (fact 𝓤 (IsSome d.object)) ∷ []) ∵ move ! (1 ∷ []) $ heard ! (IsSome d.object) (λ is_some.
    let is = some_of d.object is_some in let m : Object = is.0 in
    split ! $ move ! (1 ∷ []) $ fsplit ! $ handle_tells (al object_row heap_row heap_laws heap.ghosts) ! a z.0.4.0 (λ h eh fits.
    move ! (1 ∷ []) $ fsplit ! $ kept_out ! d z.0.4.1.0 (λ ed.
    rewrite ! 0 (λ (k : Rattle.std.proofs.Common.Option Object). ‵ (kept_owns d.at k)) is.1 refl $
    in_a_block ! d.at (λ p. kept_owns p (Some m)) (fst∗ 𝓤 (never 𝓤) (sem 𝓛 (token null_ptr))) (λ b o eb.
    -- [the object; true; the allocator; the tokens]
    let w : Val = alone (vptr b o) in let made = both (vptr b o) h in
    let all : z.0.4.0 ++ (z.0.4.1.0 ++ []) ≡ h ∷ w ∷ [] =
    λ i. eh i ++ (subst (λ (p : Ptr). z.0.4.1.0 ≡ alone (ptr_val p) ∷ []) eb ed i ++ []) in
    suffices ! (Run (h ∷ w ∷ [])) (subst (λ (us : List Val). ent 𝓤 (Run (h ∷ w ∷ [])) (Run us)) (sym all) (id⊢ 𝓤 (Run (h ∷ w ∷ [])))) $
    enter ! 𝓣.C 𝓣.Λ code.function (h ∷ w ∷ []) Post $ alloc_all ! (λ l. pass_all ! refl (fits, ((tt, (tt, tt)), tt)) $
    sets ! (of_opd ! (get_in ! (fld ! refl (stop !)) (sub ! 0 refl (whole !)))) refl (tt, tt) $
    sets ! (of_opd ! (get ! refl)) refl (tt, tt) $
    sets ! (agg ! (and_then ! (get ! refl) (and_then ! (get ! refl) (no_more !)))) refl (loose_good object_row heap_row heap_laws heap.ghosts b o h fits) $
    move ! (0 ∷ 2 ∷ []) $ loose_in object_row heap_row heap_laws heap.ghosts ! b o h a m $
    use0 𝓛 (raw (fact 𝓤 (d.object ≡ Some m))) (fact_i 𝓤 (d.object ≡ Some m) (emp 𝓤) is.1) $ nothing ! $ nothing ! $ fjoin ! $ nothing ! $ move ! (0 ∷ 1 ∷ []) $ fjoin ! $
    returns ! (look_at ! 0 refl) $ free_all ! refl $ keep ! (4 ∷ 0 ∷ 2 ∷ 1 ∷ []) $
    by ! (leaves 𝓛 f.ended hs c z made (record { at = block_ptr b o; alloc = a; value = m }) (tt, (tt, tt)) (tt, (tt, tt)))))))))
