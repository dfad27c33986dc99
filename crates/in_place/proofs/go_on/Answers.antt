use Prim.Native.Nat.{ℕ}
use mathlib.Core.List.{List}
use mathlib.Core.Path.{◌≡◌, refl, ap, sym, ◌∙◌}
use Rattle.pci.specs.declared.Question.{Question}
use Rattle.words_calls.specs.Calls.{turn_in}
use Rattle.in_place.specs.InPlace.{state_after, ask_write, ask_go, out_after}
use Rattle.in_place.specs.declared.Next.{Next}
use Rattle.in_place.specs.declared.Next.TheVariants as n
use Rattle.in_place.proofs.go_on.Goals as goal

-- what is written, by what comes next
by_next : (x y : Next) (m : ℕ) (s w : List ℕ) {r : ℕ} {s' w' : List ℕ} → x ≡ y → r ≡ 0 → s' ≡ state_after y s → w' ≡ out_after y s w m
    → (r ≡ 0) × ((s' ≡ state_after x s) × (w' ≡ out_after x s w m))
by_next x y m s w e a b d = (a, (b ∙ ap (λ (z : Next). state_after z s) (sym e), d ∙ ap (λ (z : Next). out_after z s w m) (sym e)))

pub returns-in-Write : goal.returns-in-Write
returns-in-Write c = let p = c.args in
    let parts = by_next p.next (n.Write _) p.undo p.state.now p.out.now c.in-Write.is c.to.ensures.value c.to.ensures.state_after (c.to.ensures.out_after ∙ ap (λ (y : Question). turn_in p.out.now y p.undo) (c.ask_write.ensures ∙ ap (λ (z : List ℕ). ask_write z c.in-Write.i) c.post_at-p.ensures)) in record { value = parts.0; state_after = parts.1.0; out_after = parts.1.1 }

pub returns-in-Fence : goal.returns-in-Fence
returns-in-Fence c = let p = c.args in
    let parts = by_next p.next (n.Fence) p.undo p.state.now p.out.now c.in-Fence.is c.to-in-Fence.ensures.value c.to-in-Fence.ensures.state_after c.to-in-Fence.ensures.out_after in record { value = parts.0; state_after = parts.1.0; out_after = parts.1.1 }

pub returns-in-Go : goal.returns-in-Go
returns-in-Go c = let p = c.args in
    let parts = by_next p.next (n.Go) p.undo p.state.now p.out.now c.in-Go.is c.to-in-Go.ensures.value c.to-in-Go.ensures.state_after (c.to-in-Go.ensures.out_after ∙ ap (λ (y : Question). turn_in p.out.now y p.undo) (c.ask_go.ensures ∙ ap ask_go c.post_at-p.ensures)) in record { value = parts.0; state_after = parts.1.0; out_after = parts.1.1 }

pub returns-in-Posted : goal.returns-in-Posted
returns-in-Posted c = let p = c.args in
    let parts = by_next p.next (n.Posted _) p.undo p.state.now p.out.now c.in-Posted.is c.to_posted.ensures.value c.to_posted.ensures.state_after c.to_posted.ensures.out_after in record { value = parts.0; state_after = parts.1.0; out_after = parts.1.1 }

pub returns-in-Stall : goal.returns-in-Stall
returns-in-Stall c = let p = c.args in
    let parts = by_next p.next (n.Stall _) p.undo p.state.now p.out.now c.in-Stall.is c.to-in-Stall.ensures.value c.to-in-Stall.ensures.state_after c.to-in-Stall.ensures.out_after in record { value = parts.0; state_after = parts.1.0; out_after = parts.1.1 }

pub returns-in-Read : goal.returns-in-Read
returns-in-Read c = let p = c.args in
    let parts = by_next p.next (n.Read _) p.undo p.state.now p.out.now c.in-Read.is c.to_read.ensures.value c.to_read.ensures.state_after c.to_read.ensures.out_after in record { value = parts.0; state_after = parts.1.0; out_after = parts.1.1 }

pub returns-in-Fenced : goal.returns-in-Fenced
returns-in-Fenced c = let p = c.args in
    let parts = by_next p.next (n.Fenced) p.undo p.state.now p.out.now c.in-Fenced.is c.to-in-Fenced.ensures.value c.to-in-Fenced.ensures.state_after c.to-in-Fenced.ensures.out_after in record { value = parts.0; state_after = parts.1.0; out_after = parts.1.1 }

pub returns-in-Status : goal.returns-in-Status
returns-in-Status c = let p = c.args in
    let parts = by_next p.next (n.Status) p.undo p.state.now p.out.now c.in-Status.is c.to-in-Status.ensures.value c.to-in-Status.ensures.state_after c.to-in-Status.ensures.out_after in record { value = parts.0; state_after = parts.1.0; out_after = parts.1.1 }

pub returns-in-High : goal.returns-in-High
returns-in-High c = let p = c.args in
    let parts = by_next p.next (n.High) p.undo p.state.now p.out.now c.in-High.is c.to-in-High.ensures.value c.to-in-High.ensures.state_after c.to-in-High.ensures.out_after in record { value = parts.0; state_after = parts.1.0; out_after = parts.1.1 }

pub returns-in-Low : goal.returns-in-Low
returns-in-Low c = let p = c.args in
    let parts = by_next p.next (n.Low _) p.undo p.state.now p.out.now c.in-Low.is c.to-in-Low.ensures.value c.to-in-Low.ensures.state_after c.to-in-Low.ensures.out_after in record { value = parts.0; state_after = parts.1.0; out_after = parts.1.1 }

pub returns-in-Other : goal.returns-in-Other
returns-in-Other c = let p = c.args in
    let parts = by_next p.next n.Other p.undo p.state.now p.out.now c.in-Other.is refl refl refl in record { value = parts.0; state_after = parts.1.0; out_after = parts.1.1 }
