use Rattle.std.proofs.Common.{◌≡◌, ◌⊎◌, inl, inr, List, ℕ, Option, Some, None, IfSome, subst}
use Rattle.line_io.proofs.Sending.{front-sent}
use Rattle.line_io.specs.Output.{AppendsFront}
use Rattle.job_ends.specs.Ends.{error_line, no_memory_error}
use Rattle.job_ends.proofs.messages.failed.Goals as goal

module _ (before after : Option (List ℕ)) where
  -- the line went out, where it is known what it is
  line_out : (shown : Option (List ℕ)) (line : List ℕ) → IfSome shown (λ bytes. line ≡ bytes) → AppendsFront before after line
      → IfSome shown (λ bytes. AppendsFront before after bytes ⊎ AppendsFront before after no_memory_error)
  line_out None line is front = tt
  line_out (Some bytes) line is front = inl (subst (AppendsFront before after) is front)

  -- or there was not enough memory for it
  short_out : (shown : Option (List ℕ)) → AppendsFront before after no_memory_error → IfSome shown (λ bytes. AppendsFront before after bytes ⊎ AppendsFront before after no_memory_error)
  short_out None front = tt
  short_out (Some bytes) front = inr front

pub returns-in_default-clause-told : goal.returns-in_default-clause-told
returns-in_default-clause-told g c =
    short_out (g.E.Write.contents c.args.e.now) (g.E.Write.contents c.no_memory.new.e) (error_line (g.F.Display.output c.args.fault.now)) c.no_memory.ensures.told

pub returns-clause-told : goal.returns-clause-told
returns-clause-told g c =
    let before = g.E.Write.contents c.args.e.now in
    let after = g.E.Write.contents c.write_bytes.new.writer in
    line_out before after (error_line (g.F.Display.output c.args.fault.now)) _ c.in-Ok.ensures
    (subst (AppendsFront before after) c.as_bytes.ensures.value (front-sent c.write_bytes.result _ _ _ c.write_bytes.ensures.whole c.write_bytes.ensures.front))
