-- The command that goes on, by what comes next.
use Rattle.command.specs.Machine.{in_phase, stalled_by, posted}
use Rattle.command.specs.declared.Cmd.{Cmd}
use Rattle.command.specs.declared.Phase.TheVariants as ph
use Rattle.in_place.specs.declared.Next.{Next}
use Rattle.in_place.specs.declared.Next.TheVariants as n

abbrev pub on_to : Cmd → Next → Cmd
on_to c (n.Write i) = in_phase c (ph.Writing i)
on_to c n.Fence = in_phase c ph.Fence
on_to c n.Go = in_phase c ph.Go
on_to c (n.Posted g) = posted c
on_to c (n.Stall us) = in_phase c ph.Wait
on_to c (n.Read m) = stalled_by c m
on_to c n.Fenced = in_phase c ph.Fenced
on_to c n.Status = in_phase c ph.Status
on_to c n.High = in_phase c ph.High
on_to c (n.Low v) = in_phase c (ph.Low v)
on_to c n.Other = c
