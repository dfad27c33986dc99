use Prim.Native.Nat.{ℕ}
use mathlib.Core.Path.{◌≡◌, ap, ◌∙◌}
use borrow.Author.Rules.{rules}
use Rattle.hcr.specs.declared.Post.{Post}
use Rattle.client_plan.specs.declared.Request.{Request}
use Rattle.client.proofs.post.Goals as goal

-- a command by its two parameters
abbrev posts : Request → ℕ → ℕ → Post
posts y i o = record { op = y.op; op_mod = y.op_mod; in_mod = y.in_mod; in_param = i; out_param = o }

posted : (y : Request) {i j o u : ℕ} → i ≡ j → o ≡ u → posts y i o ≡ posts y j u
posted y {i} {j} {o} {u} h k = ap (λ (n : ℕ). posts y n o) h ∙ ap (λ (n : ℕ). posts y j n) k

pub returns : goal.returns
returns c = λ s. posted c.args.r (c.in_address.ensures s) (c.out_address.ensures s)
