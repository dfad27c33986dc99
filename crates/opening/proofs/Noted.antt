-- What stands behind the head once a reply was noted, and what follows from what stood there before.
use Rattle.std.specs.Prelude.{Option}
use Prim.Native.Nat.{ℕ}
use mathlib.Core.Bool.{Bool, true, false}
use mathlib.Core.List.{List}
use mathlib.Core.Path.{◌≡◌, refl, ap, sym, ◌∙◌}
use Rattle.fields.specs.Outcome.{Outcome, value, refused, value_or, pick}
use Rattle.reply.specs.Capability.{capability_of, no_caps}
use Rattle.reply.specs.Replies.{query_port_of, no_port}
use Rattle.reply.specs.declared.DevCap.{DevCap}
use Rattle.reply.specs.declared.PortInfo.{PortInfo}
use Rattle.command.specs.declared.CmdEnd.{CmdEnd}
use Rattle.work.specs.declared.End.{End}
use Rattle.work.specs.declared.End.TheVariants as w
use Rattle.session.specs.declared.Boot.{Boot}
use Rattle.session.specs.declared.Boot.TheVariants as k
use Rattle.session.specs.declared.Note.{Note}
use Rattle.session.specs.declared.Note.TheVariants as n
use Rattle.session.specs.declared.Core.{Core}
use Rattle.session.specs.declared.Plan.{Plan}
use Rattle.session.specs.declared.Session.{Session}
use Rattle.session.specs.declared.Planned.{Planned}
use Rattle.session.specs.declared.Top.{Top}
use Rattle.session.specs.Core.{Behind, full, plan_in, took_by, noted}
use Rattle.closing_plan.specs.Plan.{cmd_in}
use Rattle.closing_plan.specs.Closing.{is_done}
use Rattle.opening_values.specs.Heads.{capped}
use Rattle.opening_plan.specs.Plan.{fail_by_plan, cap_replied, port_replied, cap_ended, port_ended, boot_plan}
use Rattle.ports.specs.Replied.{after_cap, ported, after_port, CapPlan, PortPlan}
use Rattle.opening.specs.Notes.{value_note, cap_note, port_note, boot_note, Found}
use Rattle.opening.proofs.Steps.{onward, stopped}

-- a note, by how the command has ended
module _ (y : End) {x : CmdEnd} {z : Bool} (v : Note) (e : x ≡ cmd_in y) (i : z ≡ is_done x.result) where
  pub note_good : z ≡ true → v ≡ pick (is_done (cmd_in y).result) v n.Nothing
  note_good h = sym (ap (λ (t : Bool). pick t v n.Nothing) (ap (λ (u : CmdEnd). is_done u.result) (sym e) ∙ sym i ∙ h))

  pub note_bad : z ≡ false → n.Nothing ≡ pick (is_done (cmd_in y).result) v n.Nothing
  note_bad h = sym (ap (λ (t : Bool). pick t v n.Nothing) (ap (λ (u : CmdEnd). is_done u.result) (sym e) ∙ sym i ∙ h))

module _ (z : Option ℕ) (o : List ℕ) (b : Behind) where
  cap_by : (v : Outcome DevCap) → capability_of o z ≡ v → noted (value_note n.Cap v) z o b ≡ after_cap v b
  cap_by (value c) h = ap (λ (u : Outcome DevCap). capped (value_or no_caps u) b) h
  cap_by (refused i vs) h = refl

  port_by : (i : ℕ) (v : Outcome PortInfo) → query_port_of o i ≡ v → noted (value_note (n.Port i) v) z o b ≡ after_port i v b
  port_by i (value y) h = ap (λ (u : Outcome PortInfo). ported i (value_or no_port u) b) h
  port_by i (refused j vs) h = refl

  -- a good command's reply
  pub cap_good : (x : CmdEnd) → is_done x.result ≡ true → noted (cap_note z (w.Cmd x) o) z o b ≡ after_cap (capability_of o z) b
  cap_good x h = ap (λ (t : Bool). noted (pick t (value_note n.Cap (capability_of o z)) n.Nothing) z o b) h ∙ cap_by (capability_of o z) refl

  pub port_good : (i : ℕ) (x : CmdEnd) → is_done x.result ≡ true → noted (port_note i (w.Cmd x) o) z o b ≡ after_port i (query_port_of o i) b
  port_good i x h = ap (λ (t : Bool). noted (pick t (value_note (n.Port i) (query_port_of o i)) n.Nothing) z o b) h ∙ port_by i (query_port_of o i) refl

  -- nothing is left by a command that was not good
  pub cap_bad : (x : CmdEnd) → is_done x.result ≡ false → noted (cap_note z (w.Cmd x) o) z o b ≡ b
  cap_bad x h = ap (λ (t : Bool). noted (pick t (value_note n.Cap (capability_of o z)) n.Nothing) z o b) h

  pub port_bad : (i : ℕ) (x : CmdEnd) → is_done x.result ≡ false → noted (port_note i (w.Cmd x) o) z o b ≡ b
  port_bad i x h = ap (λ (t : Bool). noted (pick t (value_note (n.Port i) (query_port_of o i)) n.Nothing) z o b) h

-- QUERY_DEV_CAP or QUERY_PORT has ended
module _ (s : Core) (x : CmdEnd) (o : List ℕ) (top : Top) (a b : Behind) {t : Core} {z : Bool} (e : t ≡ took_by s x) (i : z ≡ is_done x.result) where
  pub cap_on : z ≡ true → a ≡ noted (cap_note s.uar.size (w.Cmd x) o) s.uar.size o b → (r : Plan) (v : Outcome DevCap) → v ≡ capability_of o s.uar.size
      → CapPlan r t v top a → plan_in r a ≡ cap_ended (full s b) x o top
  cap_on k h r v j f =
      f b (h ∙ cap_good s.uar.size o b x (sym i ∙ k) ∙ sym (ap (λ (u : Outcome DevCap). after_cap u b) j))
      ∙ ap (λ (u : Outcome DevCap). cap_replied (full t b) u top) j
      ∙ onward s x top b (λ (d : Session). cap_replied d (capability_of o s.uar.size) top) e i k

  pub cap_off : z ≡ false → a ≡ noted (cap_note s.uar.size (w.Cmd x) o) s.uar.size o b → fail_by_plan (full t a) x.result top ≡ cap_ended (full s b) x o top
  cap_off k h =
      ap (λ (u : Behind). fail_by_plan (full t u) x.result top) (h ∙ cap_bad s.uar.size o b x (sym i ∙ k))
      ∙ stopped s x top b (λ (d : Session). cap_replied d (capability_of o s.uar.size) top) e i k

  pub port_on : (p : ℕ) → z ≡ true → a ≡ noted (port_note p (w.Cmd x) o) s.uar.size o b → (r : Plan) (v : Outcome PortInfo) → v ≡ query_port_of o p
      → PortPlan r t p v top a → plan_in r a ≡ port_ended (full s b) p x o top
  port_on p k h r v j f =
      f b (h ∙ port_good s.uar.size o b p x (sym i ∙ k) ∙ sym (ap (λ (u : Outcome PortInfo). after_port p u b) j))
      ∙ ap (λ (u : Outcome PortInfo). port_replied (full t b) p u top) j
      ∙ onward s x top b (λ (d : Session). port_replied d p (query_port_of o p) top) e i k

  pub port_off : (p : ℕ) → z ≡ false → a ≡ noted (port_note p (w.Cmd x) o) s.uar.size o b → fail_by_plan (full t a) x.result top ≡ port_ended (full s b) p x o top
  port_off p k h =
      ap (λ (u : Behind). fail_by_plan (full t u) x.result top) (h ∙ port_bad s.uar.size o b p x (sym i ∙ k))
      ∙ stopped s x top b (λ (d : Session). port_replied d p (query_port_of o p) top) e i k

-- A TASK OF BRING-UP HAS ENDED
module _ (s : Core) (st : Boot) (y : End) (o : List ℕ) (top : Top) (a b : Behind) (h : a ≡ noted (boot_note s.uar.size st y o) s.uar.size o b) where
  -- its stage is g, in which nothing is noted
  pub quiet : {A : Type 0} (f : A → Session → Planned) (g : Boot) (u v : A) → st ≡ g → u ≡ v → noted (boot_note s.uar.size g y o) s.uar.size o b ≡ b
      → f v (full s b) ≡ boot_plan (full s b) g y o top → f u (full s a) ≡ boot_plan (full s b) st y o top
  quiet {A} f g u v e k i j =
      ap (λ (x : A). f x (full s a)) k
      ∙ ap (λ (x : Behind). f v (full s x)) (h ∙ ap (λ (x : Boot). noted (boot_note s.uar.size x y o) s.uar.size o b) e ∙ i)
      ∙ j
      ∙ sym (ap (λ (x : Boot). boot_plan (full s b) x y o top) e)

  -- the capabilities, or a port
  pub found_cap : (r : Plan) (x : CmdEnd) → st ≡ k.DevCap → x ≡ cmd_in y
      → Found r (cap_note s.uar.size (w.Cmd x) o) s o (λ (d : Session). cap_ended d x o top) a → plan_in r a ≡ boot_plan (full s b) st y o top
  unfolding boot_plan
  found_cap r x e i f =
      f b (h ∙ ap (λ (g : Boot). noted (boot_note s.uar.size g y o) s.uar.size o b) e ∙ sym (ap (λ (v : CmdEnd). noted (cap_note s.uar.size (w.Cmd v) o) s.uar.size o b) i))
      ∙ ap (λ (v : CmdEnd). cap_ended (full s b) v o top) i
      ∙ sym (ap (λ (g : Boot). boot_plan (full s b) g y o top) e)

  pub found_port : (r : Plan) (n : ℕ) (x : CmdEnd) → st ≡ k.Port n → x ≡ cmd_in y
      → Found r (port_note n (w.Cmd x) o) s o (λ (d : Session). port_ended d n x o top) a → plan_in r a ≡ boot_plan (full s b) st y o top
  unfolding boot_plan
  found_port r n x e i f =
      f b (h ∙ ap (λ (g : Boot). noted (boot_note s.uar.size g y o) s.uar.size o b) e ∙ sym (ap (λ (v : CmdEnd). noted (port_note n (w.Cmd v) o) s.uar.size o b) i))
      ∙ ap (λ (v : CmdEnd). port_ended (full s b) n v o top) i
      ∙ sym (ap (λ (g : Boot). boot_plan (full s b) g y o top) e)
