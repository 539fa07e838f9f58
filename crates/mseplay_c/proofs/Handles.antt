-- The machine value of a handle, and what it owns.
use Rattle.std.proofs.Common.{◌≡◌, ℕ, List, [], ◌∷◌, ◌++◌, refl, sym, ap, ◌∙◌, subst}
use lib.Dec.{T, lit<}
use mathlib.Core.Bool.{Bool, true, false, ◌&&◌}
use seplogic.Ra.Ura.{Ura}
use mir.Syntax.{Ty, ty_ptr, impl, tnil, tcons, dnil, dcons}
use mir.Raw.{raw as bare}
use mir.Val.{Val, vptr, vstruct, vcons, vnil, of_list, has_ty, WT}
use base.Fml.{Fml}
use base.Logic.{via, never, fst∗, snd∗, guard_i}
use types.Logic.{Logic, sem}
use contract.Monad.{fact_use}
use types.Kit.{use1, given, learn, Item, Goal, Seq, Step, step, ‵, ◌$◌, move, drop, fsplit, fjoin, fpick, fpack, feq_i, feq_l}
use denote.Exit.{no}
use denote.RattleType.{RattleType, Valss}
use denote.Builtin.{RawPtr}
use denote.RawPtr.{Ptr, block_ptr, null_ptr, ptr_val, in_a_block, Testable}
use denote.Steps.{nothing}
use denote.Param.{arg, layout}
use denote.Param.Laws.{Laws, arg_laws}
use denote.Struct.Struct.{within}
use denote.Struct.Owning.{shape, fields, to}
use Rattle.std.specs.Prelude.{Option, Some, None}
use Rattle.std.specs.contracts.alloc.Global as heap
use Rattle.std.proofs.alloc.Global.TheLaws as heap_laws
use Rattle.std.specs.contracts.impls.GlobalAllocator.TheImpl as TheImpl
use Rattle.std.proofs.alloc.Calls.{Al, handle_tells}
use Rattle.std.proofs.ResultValues.{and_tt}
use Rattle.loose_box.specs.contracts.LooseBox as loose
use Rattle.loose_box.proofs.Values.{both, loose_good, loose_out, loose_in}
use Rattle.std.specs.Box.Ownership.{box_owns}
use Rattle.std.specs.Ptr.{points_to}
use Rattle.std.proofs.GlobalToken.{dealloc_token-Testable}
use Rattle.mseplay_c.specs.Owned.{owned, session_row}
use Rattle.mseplay_c.specs.contracts.handle.Handle as handle

-- ---- the machine value of a handle
abbrev pub Good : Val → Type 0
Good h = T (has_ty (layout heap.the_row) h) × WT h

abbrev pub token : heap.the_row.Denot → Ty → Ptr → Fml
token = TheImpl.ghosts.dealloc_token

abbrev pub al : Al
al = record { row = heap.the_row; laws = heap_laws.the_row_laws; g = TheImpl.ghosts; d = impl [] tnil dnil; drops = impl [] tnil dnil }

-- the row of a session's box that is taken apart
abbrev pub L' : RattleType
L' = loose.the_row session_row heap.the_row TheImpl.ghosts

abbrev pub H' : RattleType
H' = handle.the_row

pub handle_good : (p : Ptr) (h : Val) → Good h → T (has_ty (layout H') (both (ptr_val p) h)) × WT (both (ptr_val p) h)
handle_good (block_ptr b o) h fits = (and_tt (has_ty (layout heap.the_row) h) fits.0, (tt, (fits.1, tt)))
handle_good null_ptr h fits = (and_tt (has_ty (layout heap.the_row) h) fits.0, (record { fits = lit< tt }, (fits.1, tt)))

module _ {M : Type 1} {𝓤 : Ura M} {𝓛 : Logic 𝓤} {K : Type 0} {Γ : List (Item 𝓤)} {G : Goal 𝓤 𝓛.H} where
  pub handle_out : K → (d : H'.Denot) (vs : List Val)
      → ((h : Val) → vs ≡ both (ptr_val d.at) h ∷ [] → Good h → Seq K 𝓛 (‵ (owned (token d.alloc) d.at d.session) ∷ ‵ (heap.the_row.own_val d.alloc (h ∷ [])) ∷ Γ) G)
      → Seq K 𝓛 (‵ (H'.own_val d vs) ∷ Γ) G
  handle_out t d vs k =
      fsplit t $ fpick t (λ vss. fsplit t $ feq_l t (λ ev. fsplit t $ feq_l t (λ ep. fsplit t $ handle_tells al t d.alloc vss.1.0 (λ h ea fits. move t (1 ∷ []) $ drop t $ move t (1 ∷ []) $ k h
      (subst (λ (ws : List Val). vs ≡ vstruct (of_list (ptr_val d.at ∷ (ws ++ []))) ∷ []) ea (subst (λ (ps : List Val). vs ≡ vstruct (of_list (ps ++ (vss.1.0 ++ []))) ∷ []) ep ev)) fits))))

  pub handle_in : K → (d : H'.Denot) (h : Val)
      → Step K 𝓛 (‵ (H'.own_val d (both (ptr_val d.at) h ∷ [])) ∷ Γ) G (‵ (owned (token d.alloc) d.at d.session) ∷ ‵ (heap.the_row.own_val d.alloc (h ∷ [])) ∷ Γ) G
  handle_in t d h = step (λ s. let v : Val = both (ptr_val d.at) h in
      nothing t $ move t (2 ∷ 0 ∷ []) $ fjoin t $ feq_i t (List Val) (ptr_val d.at ∷ []) (ptr_val d.at ∷ []) refl $ fjoin t $ feq_i t (List Val) (v ∷ []) (v ∷ []) refl $ fjoin t $
      fpack t (Valss (fields handle.the_type)) (within (shape handle.the_type) (to handle.the_type d) (v ∷ [])) (ptr_val d.at ∷ [], (h ∷ [], tt)) $ fjoin t $ s)

  -- what is owned, by what is session: nothing, where the pointer is null; or a value, where the pointer may be tested
  pub either : K → (a : heap.the_row.Denot) (p : Ptr) (session : Option session_row.Denot)
      → (session ≡ None → p ≡ null_ptr → Seq K 𝓛 Γ G)
      → ((b o : ℕ) (x : session_row.Denot) → session ≡ Some x → p ≡ block_ptr b o → Testable (block_ptr b o) → Seq K 𝓛 (‵ (box_owns (token a) session_row (block_ptr b o) x) ∷ Γ) G)
      → Seq K 𝓛 (‵ (owned (token a) p session) ∷ Γ) G
  either t a p None closed one = feq_l t (λ e. closed refl e)
  either t a p (Some x) closed one =
      in_a_block t p (λ q. box_owns (token a) session_row q x) (fst∗ 𝓤 (never 𝓤) (sem 𝓛 (token a (bare (layout session_row)) null_ptr))) (λ b o e.
      let Owns = box_owns (token a) session_row (block_ptr b o) x in
      use1 𝓛 (given (Testable (block_ptr b o)) (‵ Owns)) (fact_use 𝓤 (Testable (block_ptr b o)) (via 𝓤 _ (snd∗ 𝓤 (sem 𝓛 (points_to session_row (block_ptr b o) x)) (sem 𝓛 (token a (bare (layout session_row)) (block_ptr b o)))) (dealloc_token-Testable 𝓛 a (bare (layout session_row)) (block_ptr b o)))
      (guard_i 𝓤 (Testable (block_ptr b o)) (sem 𝓛 Owns))) $ learn t (λ may. one b o x refl e may))
