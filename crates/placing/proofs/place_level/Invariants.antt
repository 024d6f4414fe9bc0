use Prim.Native.Nat.{ℕ, ◌+◌, ◌*◌}
use Rattle.placing.specs.Stores.{Put, corner_of}
use Rattle.placing.proofs.Blocks.{Storing}
use Rattle.placing.proofs.place_level.Given as goal

abbrev pub invariant-loop-b : goal.invariant-loop-b
invariant-loop-b l = Storing (λ (p f : ℕ). 2 * corner_of l.z.w p f) l.from l.blocks l.to l.initial.work l.b l.work

abbrev pub invariant-loop-f : goal.invariant-loop-f
invariant-loop-f l = Put 0 (λ f. l.to + 4 * l.b + f) l.f (λ f. 2 * corner_of l.z.w l.p f) l.initial.work l.work
