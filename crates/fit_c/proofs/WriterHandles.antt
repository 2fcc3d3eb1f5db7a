-- The machine value of the handle of a writer, and what it owns. Assumes `Logic`. These walks go as those of the kit's `once_cell` do.
use Rattle.std.proofs.Common.{◌≡◌, ℕ, List, [], ◌∷◌, ◌++◌, refl, subst}
use seplogic.Ra.Ura.{Ura}
use mir.Raw.{raw as bare}
use mir.Val.{Val, vstruct, of_list}
use base.Logic.{via, never, fst∗, snd∗, guard_i}
use base.Fml.{Fml}
use types.Logic.{Logic, sem}
use types.Kit.{Item, Goal, Seq, Step, step, ‵, given, ◌$◌, drop, learn, use1, fsplit, fjoin, fpick, fpack, feq_i, feq_l}
use contract.Monad.{fact_use}
use denote.RattleType.{Valss}
use denote.Builtin.{RawPtr}
use denote.Memory.{lone}
use denote.RawPtr.{Ptr, block_ptr, null_ptr, ptr_val, in_a_block, Testable}
use denote.Steps.{nothing}
use denote.Struct.Struct.{within}
use denote.Struct.Owning.{shape}
use Rattle.core.specs.Ptr.{points_to}
use Rattle.std.proofs.Common.{Option, None, Some}
use Rattle.std.proofs.GlobalToken.{dealloc_token-Testable}
use Rattle.std.specs.contracts.impls.GlobalAllocator.TheImpl.{ghosts}
use Rattle.std_alloc.specs.Box.Ownership.{box_owns}
use Rattle.fit_writer.specs.Written.{Writing}
use Rattle.fit_writer.specs.contracts.writer.MessageWriter as held
use Rattle.fit_c.proofs.Handles.{lone_val}
use Rattle.fit_c.specs.inner.Handles.{the_heap}
use Rattle.fit_c.specs.inner.WriterHandles.{holds}
use Rattle.fit_c.specs.contracts.writer_handle.FitWriter as handle

abbrev pub boxed : Ptr → Writing → Fml
boxed p x = box_owns (ghosts.dealloc_token the_heap) held.the_row p x

module _ {M : Type 1} {𝓤 : Ura M} {𝓛 : Logic 𝓤} {K : Type 0} {Γ : List (Item 𝓤)} {G : Goal 𝓤 𝓛.H} where
  pub handle_out : K → (d : handle.the_row.Denot) (vs : List Val)
      → (vs ≡ lone_val (ptr_val d.at) ∷ [] → Seq K 𝓛 (‵ (holds d.at d.value) ∷ Γ) G) → Seq K 𝓛 (‵ (handle.the_row.own_val d vs) ∷ Γ) G
  handle_out t d vs k =
      fsplit t $ fpick t (λ vss. fsplit t $ feq_l t (λ ev. fsplit t $ feq_l t (λ ep. drop t $
      k (subst (λ (ps : List Val). vs ≡ vstruct (of_list (ps ++ [])) ∷ []) ep ev))))

  pub handle_in : K → (p : Ptr) (m : Option Writing)
      → Step K 𝓛 (‵ (handle.the_row.own_val (record { at = p; value = m }) (lone_val (ptr_val p) ∷ [])) ∷ Γ) G (‵ (holds p m) ∷ Γ) G
  handle_in t p m = step (λ s. let v : Val = lone_val (ptr_val p) in
      nothing t $ feq_i t (List Val) (ptr_val p ∷ []) (ptr_val p ∷ []) refl $ fjoin t $ feq_i t (List Val) (v ∷ []) (v ∷ []) refl $ fjoin t $
      fpack t (Valss (RawPtr ∷ [])) (within (shape handle.the_type) (p, tt) (v ∷ [])) (ptr_val p ∷ [], tt) $ fjoin t $ s)

  -- a box may be compared with null
  tested : K → (b o : ℕ) (x : Writing) → (Testable (block_ptr b o) → Seq K 𝓛 (‵ (boxed (block_ptr b o) x) ∷ Γ) G)
      → Seq K 𝓛 (‵ (boxed (block_ptr b o) x) ∷ Γ) G
  tested t b o x k =
      use1 𝓛 (given (Testable (block_ptr b o)) (‵ (boxed (block_ptr b o) x)))
      (fact_use 𝓤 (Testable (block_ptr b o))
      (via 𝓤 (sem 𝓛 (ghosts.dealloc_token the_heap (bare (lone held.the_row.mir)) (block_ptr b o)))
      (snd∗ 𝓤 (sem 𝓛 (points_to held.the_row (block_ptr b o) x)) (sem 𝓛 (ghosts.dealloc_token the_heap (bare (lone held.the_row.mir)) (block_ptr b o))))
      (dealloc_token-Testable 𝓛 the_heap (bare (lone held.the_row.mir)) (block_ptr b o)))
      (λ p. guard_i 𝓤 (Testable (block_ptr b o)) (sem 𝓛 (boxed (block_ptr b o) x)) p)) $ learn t k

  pub either_held : K → (p : Ptr) (m : Option Writing) → (p ≡ null_ptr → m ≡ None → Seq K 𝓛 Γ G)
      → ((b o : ℕ) (x : Writing) → p ≡ block_ptr b o → m ≡ Some x → Testable (block_ptr b o) → Seq K 𝓛 (‵ (boxed (block_ptr b o) x) ∷ Γ) G)
      → Seq K 𝓛 (‵ (holds p m) ∷ Γ) G
  either_held t p None none one = feq_l t (λ e. none e refl)
  either_held t p (Some x) none one =
      in_a_block t p (λ q. boxed q x) (fst∗ 𝓤 (never 𝓤) (sem 𝓛 (ghosts.dealloc_token the_heap (bare (lone held.the_row.mir)) null_ptr))) (λ b o e.
      tested t b o x (λ test. one b o x e refl test))
