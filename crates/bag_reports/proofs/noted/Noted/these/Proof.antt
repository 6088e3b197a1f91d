-- A value that takes no memory is made, with the items that a clause names.
use Rattle.std.proofs.Common.{[], ◌∷◌, refl}
use Rattle.std.proofs.raw_atomic.Walks.{proved_at}
use mir.MapTy.{inst_fn}
use mir.Syntax.{a_type}
use mir.Val.{Val, vstruct, vcons, vnil}
use contract.Running.{tables}
use denote.Param.{layouts, param}
use denote.RattleType.{RattleType, owns}
use denote.Shadow.{pure_i}
use denote.Signature.{types_at}
use denote.Steps.{nothing}
use denote.Triple.Entry.{alive}
use denote.Triple.Walked.{ends_at, says, walk_of}
use types.ByLocal.{alloc_all, free_all, get, look_at, pass_all, sets}
use types.Kit.{‵, raw, ◌⊛◌, ◌$◌, ◌∵◌, !, done, keep, move, qed, split, suffices}
use types.Part.{agg}
use types.Run.{and_then, enter, no_more, returns}
use Rattle.bag_reports.specs.contracts.noted.Noted as T
use Rattle.bag_reports.specs.contracts.noted.Noted.these as it
use Rattle.bag_reports.specs.contracts.noted.Noted.these.Key.{name as #it}
use Rattle.bag_reports.proofs.noted.Noted.these.Statement as stated
use Rattle.bag_reports.proofs.noted.Noted.these.Code as code

abbrev v : Val
v = vstruct (vcons (vstruct vnil) vnil)

pub these_spec : {M : Type 1} → stated.statement M
these_spec 𝓤 𝓛 𝓜 𝓡 wired A LA =
    let 𝓣 = tables 𝓤 𝓛.H 𝓜 𝓡 𝓡.env in
    let row : RattleType = T.the_row (param 0 A) in
    let ended = it.ended A in
    let clauses = it.clauses A 𝓛 𝓜.mem 𝓡.returns in
    let key = layouts (a_type ∷ []) (A, tt) in
    let function = inst_fn key code.function in
    proved_at 𝓛 ended tt clauses 𝓜 𝓡 tt (#it key) function (code.unfolded 𝓤 𝓛.H 𝓜 𝓡 wired (A, tt)) (λ z are.
    let made : row.Denot = record { of = record {}; items = z.1 } in
    qed 𝓛 ((raw (alive 𝓛 ended.signature z.0.0 z.0.1) ⊛ ‵ (owns (types_at ended.signature.params z.0.0) z.0.3 z.0.4))
    ∷ raw ((clauses z.0.0 z.0.3).requires z.1) ∷ []) ∵ split ! $ keep ! (0 ∷ []) $
    enter ! 𝓣.C 𝓣.Λ function [] ((walk_of 𝓛 ended tt clauses).post z) $ alloc_all ! (λ l. pass_all ! refl tt $
    sets ! (agg ! (no_more !)) refl (tt, tt) $ sets ! (agg ! (and_then ! (get ! refl) (no_more !))) refl (tt, (tt, tt)) $
    returns ! (look_at ! 0 refl) $ free_all ! refl $
    pure_i ! (row.own_val made (v ∷ [])) ((λ vss. (tt, ((λ uss. (tt, tt)), tt))), tt)
    (((vstruct vnil ∷ [], tt), (refl, ((tt, (refl, tt)), tt))), tt) $
    suffices ! _ (ends_at 𝓛 ended tt clauses z v made tt tt) $ says ! refl $ nothing ! $ move ! (2 ∷ 0 ∷ 1 ∷ []) $
    done !))
