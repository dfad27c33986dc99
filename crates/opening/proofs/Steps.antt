-- What follows each command of bring-up, and each reply, by how it ended.
use Prim.Native.Nat.{ℕ, ◌*◌}
use mathlib.Core.Bool.{Bool, true, false}
use mathlib.Core.List.{List}
use mathlib.Core.Path.{◌≡◌, ap, sym, ◌∙◌}
use lib.Dec.{eqb}
use Rattle.std.specs.Prelude.{Result, Ok, Err}
use Rattle.fields.specs.Outcome.{pick}
use Rattle.pci.specs.declared.Refusal.TheVariants as r
use Rattle.fields.specs.declared.Short.{Short}
use Rattle.reply.specs.Replies.{query_fw, fw_in, query_fw_of, fw_held, no_fw, query_func}
use Rattle.reply.specs.declared.FwInfo.{FwInfo}
use Rattle.reply.specs.declared.FwRefusal.{FwRefusal}
use Rattle.reply.specs.declared.FwRefusal.TheVariants as w
use Rattle.reply.specs.declared.FuncInfo.{FuncInfo}
use Rattle.command.specs.declared.CmdEnd.{CmdEnd}
use Rattle.session.specs.Failures.{broken_by, needs_reset}
use Rattle.session.specs.Session.{bookkeeps, informs, took_of}
use Rattle.session.specs.Core.{Behind, full, took_by}
use Rattle.session.specs.declared.Core.{Core}
use Rattle.session.specs.declared.Area.TheVariants as a
use Rattle.session.specs.declared.Boot.TheVariants as k
use Rattle.session.specs.declared.Session.{Session}
use Rattle.session.specs.declared.Planned.{Planned}
use Rattle.session.specs.declared.Top.{Top}
use Rattle.closing_plan.specs.Closing.{is_done}
use Rattle.opening_plan.specs.Values.{fw_failure_of, with_catas, with_revision, with_func}
use Rattle.opening_plan.specs.Plan.{ask_plan, fail_plan, fail_by_plan, make_plan, good_plan, stat_plan, fw_plan, func_plan, fw_replied, func_replied}

module _ (s : Session) (x : CmdEnd) (top : Top) where
  pub good : (next : Session → Planned) → is_done x.result ≡ true → next (took_of s x) ≡ good_plan s x next top
  good next h = sym (ap (λ (z : Bool). pick z (next (took_of s x)) (fail_by_plan (took_of s x) x.result top)) h)

  pub bad : (next : Session → Planned) → is_done x.result ≡ false → fail_by_plan (took_of s x) x.result top ≡ good_plan s x next top
  bad next h = sym (ap (λ (z : Bool). pick z (next (took_of s x)) (fail_by_plan (took_of s x) x.result top)) h)

  pub stat_bad : needs_reset x.result ≡ true → fail_by_plan (took_of s x) x.result top ≡ stat_plan s x top
  stat_bad h = sym (ap (λ (z : Bool). pick z (fail_by_plan (took_of s x) x.result top) (ask_plan (took_of s x) k.DevCap 0x003 0 top)) h)

  pub stat_good : needs_reset x.result ≡ false → ask_plan (took_of s x) k.DevCap 0x003 0 top ≡ stat_plan s x top
  stat_good h = sym (ap (λ (z : Bool). pick z (fail_by_plan (took_of s x) x.result top) (ask_plan (took_of s x) k.DevCap 0x003 0 top)) h)

  fw_either : List ℕ → Bool → Planned
  fw_either o z =
      pick z (fw_replied (took_of s x) (query_fw_of o s.info.uar.index) (fw_held o s.info.uar.index) top)
      (fail_plan (bookkeeps (took_of s x) (broken_by x.result (took_of s x).books)) (fw_failure_of x.result) top)

  pub fw_good : (o : List ℕ) → is_done x.result ≡ true
      → fw_replied (took_of s x) (query_fw_of o s.info.uar.index) (fw_held o s.info.uar.index) top ≡ fw_plan s x o top
  unfolding fw_either
  fw_good o h = sym (ap (fw_either o) h)

  pub fw_bad : (o : List ℕ) → is_done x.result ≡ false
      → fail_plan (bookkeeps (took_of s x) (broken_by x.result (took_of s x).books)) (fw_failure_of x.result) top ≡ fw_plan s x o top
  unfolding fw_either
  fw_bad o h = sym (ap (fw_either o) h)

-- of a head
module _ (s : Core) (x : CmdEnd) (top : Top) (b : Behind) where
  pub onward : (next : Session → Planned) {t : Core} {z : Bool} → t ≡ took_by s x → z ≡ is_done x.result → z ≡ true → next (full t b) ≡ good_plan (full s b) x next top
  onward next e i h = ap (λ (y : Core). next (full y b)) e ∙ good (full s b) x top next (sym i ∙ h)

  pub stopped : (next : Session → Planned) {t : Core} {z : Bool} → t ≡ took_by s x → z ≡ is_done x.result → z ≡ false
      → fail_by_plan (full t b) x.result top ≡ good_plan (full s b) x next top
  stopped next e i h = ap (λ (y : Core). fail_by_plan (full y b) x.result top) e ∙ bad (full s b) x top next (sym i ∙ h)

module _ (s : Session) (top : Top) where
  pub func_none : eqb s.info.cap.num_sys_eqs 0 ≡ true → ask_plan s k.Adapter 0x006 0 top ≡ func_plan s top
  unfolding func_plan
  func_none h = sym (ap (λ (z : Bool). pick z (ask_plan s k.Adapter 0x006 0 top) (ask_plan s k.Func 0x056 0 top)) h)

  pub func_some : eqb s.info.cap.num_sys_eqs 0 ≡ false → ask_plan s k.Func 0x056 0 top ≡ func_plan s top
  unfolding func_plan
  func_some h = sym (ap (λ (z : Bool). pick z (ask_plan s k.Adapter 0x006 0 top) (ask_plan s k.Func 0x056 0 top)) h)

  -- the reply to QUERY_FW
  pub fw_made : (y : Result FwInfo FwRefusal) (i : FwInfo) → y ≡ Ok i
      → make_plan (informs (bookkeeps s (with_catas s.books i)) (with_revision s.info i.rev)) a.Fa (i.pages * 4096) top
      ≡ fw_replied s (query_fw y) (fw_in y) top
  unfolding fw_replied
  fw_made y i h = sym (ap (λ (z : Result FwInfo FwRefusal). fw_replied s (query_fw z) (fw_in z) top) h)

  pub fw_short : (y : FwRefusal) → y ≡ w.Short
      → fail_plan (bookkeeps s (with_catas s.books no_fw)) r.Short top ≡ fw_replied s (query_fw (Err y)) (fw_in (Err y)) top
  unfolding fw_replied
  fw_short y h = sym (ap (λ (z : FwRefusal). fw_replied s (query_fw (Err z)) (fw_in (Err z)) top) h)

  pub fw_revision : (y : FwRefusal) (i : FwInfo) → y ≡ w.Revision i
      → fail_plan (bookkeeps s (with_catas s.books i)) (r.Revision i.rev) top ≡ fw_replied s (query_fw (Err y)) (fw_in (Err y)) top
  unfolding fw_replied
  fw_revision y i h = sym (ap (λ (z : FwRefusal). fw_replied s (query_fw (Err z)) (fw_in (Err z)) top) h)

  -- the reply to QUERY_FUNC
  pub func_good : (y : Result FuncInfo Short) (i : FuncInfo) → y ≡ Ok i → ask_plan (informs s (with_func s.info i)) k.Adapter 0x006 0 top ≡ func_replied s (query_func y) top
  unfolding func_replied
  func_good y i h = sym (ap (λ (z : Result FuncInfo Short). func_replied s (query_func z) top) h)

  pub func_short : (y : Result FuncInfo Short) (e : Short) → y ≡ Err e → fail_plan s r.Short top ≡ func_replied s (query_func y) top
  unfolding func_replied
  func_short y e h = sym (ap (λ (z : Result FuncInfo Short). func_replied s (query_func z) top) h)
