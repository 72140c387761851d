-- The walk of `empty`, by hand: a struct that owns the target of its pointer has no generated proof.
use Rattle.std.proofs.Common.{◌≡◌, [], ◌∷◌, Option, None, refl, lit<}
use mir.Val.{Val}
use base.Logic.{SProp, emp}
use base.Fml.{ftrue}
use types.Kit.{‵, raw, ◌⊛◌, ◌$◌, ◌∵◌, !, qed, by, keep, split, use0}
use types.Run.{lit, no_more, and_then, returns, enter}
use types.ByLocal.{alloc_all, pass_all, free_all, look_at, sets}
use types.Part.{agg}
use contract.Monad.{fact, fact_i}
use contract.Running.{tables}
use denote.RawPtr.{null_ptr, ptr_val}
use denote.Steps.{nothing}
use denote.Triple.Walked.{Stays, walk_of}
use Rattle.std.proofs.raw_atomic.Walks.{proved_at, leaves}
use Rattle.itchsnap_c.specs.declared.object.Object.{Object}
use Rattle.itchsnap_c.proofs.Pointers.{alone, kept_in}
use Rattle.itchsnap_c.specs.contracts.kept.empty as f
use Rattle.itchsnap_c.proofs.kept.empty.Statement.{statement}
use Rattle.itchsnap_c.proofs.kept.empty.Code as code

pub empty_spec : {M : Type 1} → statement M
empty_spec 𝓤 𝓛 𝓜 𝓡 wired =
    let H = 𝓛.H in let 𝓣 = tables 𝓤 H 𝓜 𝓡 𝓡.env in let c = f.clauses 𝓛 𝓜.mem 𝓡.returns in
    let hs : Stays f.ended.signature.params f.ended.kept = tt in
    proved_at 𝓛 f.ended hs c 𝓜 𝓡 tt f.Key.name code.function (code.unfolded 𝓤 H 𝓜 𝓡 wired) (λ z are.
    let Post : Val → SProp 𝓤 = (walk_of 𝓛 f.ended hs c).post z in
    qed 𝓛 ((‵ ftrue ⊛ ‵ ftrue) ∷ raw ((c z.0.0 z.0.3).requires z.1) ∷ []) ∵ split ! $
    enter ! 𝓣.C 𝓣.Λ code.function [] Post $ alloc_all ! (λ l. pass_all ! refl tt $
    sets ! (agg ! (and_then ! (lit ! tt) (no_more !))) refl (tt, (record { fits = lit< tt }, tt)) $
    nothing ! $ kept_in ! null_ptr None $
    let none : Option Object = None in use0 𝓛 (raw (fact 𝓤 (none ≡ none))) (fact_i 𝓤 (none ≡ none) (emp 𝓤) refl) $ nothing ! $
    returns ! (look_at ! 0 refl) $ free_all ! refl $ keep ! (3 ∷ 0 ∷ 2 ∷ 1 ∷ []) $
    by ! (leaves 𝓛 f.ended hs c z (alone (ptr_val null_ptr)) (record { at = null_ptr; object = None }) tt tt)))
