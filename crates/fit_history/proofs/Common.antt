-- The names of std, of the crates below and of this crate's specs that several proofs use: each proof takes them from here.
pub use Rattle.std.proofs.Common.{List, [], ◌∷◌, ◌++◌, refl, length}
pub use base.Fml.{ftrue, flft}
pub use base.Logic.{SProp, id⊢}
pub use contract.Monad.{Fun}
pub use contract.Running.{tables}
unfoldable pub use contract.Running.{tables_of}
pub use denote.Exit.{yes}
pub use denote.Param.{param, layouts}
pub use denote.RattleType.{RattleType, Valss, owns}
pub use denote.Ref.{mut_vals, mut_Tells, shr_vals, shr_Tells}
pub use denote.Signature.{plain, types_at}
pub use denote.Steps.{opens, closes, nothing}
pub use denote.Triple.Clauses.{Clauses, Ended, closing}
pub use denote.Triple.Spec.{Meets, triple_of}
pub use denote.Triple.Table.{entered}
pub use denote.Triple.Walked.{says, Stays, stay_ref, stay_none_ref, AllGo, Goes-ref, Goes-none_ref, ends_at, walked, walk_Meets, stay_none_slice}
pub use denote.Triple.Walked.{Goes-none_slice}
pub use mir.MapTy.{inst_fn}
pub use mir.Syntax.{Fn, Args, a_type, named}
pub use mir.Val.{Val, vunit, vptr, vstruct, vcons, vnil}
pub use prog.Memory.{Memory}
pub use prog.Routine.{Routine}
pub use prog.Wp.{WpFn, Tables}
pub use seplogic.Ra.Ura.{Ura}
pub use sound.WpLaws.{WpFn-mono}
pub use types.ByLocal.{alloc_all, pass_all, free_all, look_at, sets, get}
pub use types.Kit.{‵, raw, ◌⊛◌, ◌$◌, ◌∵◌, !, qed, move, keep, drop, use1, split, join, fsplit, fsplit3, fjoin, fjoin3, feq_i, suffices, frame, done}
pub use types.Logic.{Logic}
pub use types.Run.{enter, of_opd, unit_lit, returns, and_then, no_more}
