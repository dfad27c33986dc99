use Rattle.std.proofs.Common.{◌≡◌, length, drop}
use Rattle.init.specs.Init.{put_all}
use Rattle.init.specs.Inner.{Within}
use Rattle.init.proofs.put_all.Given as goal

-- what is left lies within the mailbox, and gives the whole
abbrev pub invariant-loop-field : goal.invariant-loop-field
invariant-loop-field l = record {
  within : Within (length l.inbox) (drop l.field-index l.f);
  whole : put_all l.inbox (drop l.field-index l.f) ≡ put_all l.initial.inbox l.f;
}
