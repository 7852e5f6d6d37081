use Rattle.std.proofs.Common.{◌≡◌, ◌∙◌, ◌++◌, ap, ap₂, codes, string_bytes}
use Rattle.std.proofs.lemmas.Result.{IfOk-weaker}
use Rattle.job_runs.specs.Checks.{court_line, held_lines}
use Rattle.job_runs.proofs.check.sound_text.Goals as goal

pub returns : goal.returns
returns c court held is =
    let line : string_bytes c.in_ok-line.line ≡ court_line court.zone_text court.close_minute = c.in_ok-line.ensures ∙ ap₂ court_line (c.as_str.ensures.value ∙ is.0) is.1 in
    let lines : string_bytes c.in_ok-held.held ≡ held_lines held = c.in_ok-held.ensures ∙ ap held_lines is.2 in
    IfOk-weaker c.format.result _ _ (λ text told. told ∙ ap₂ (λ l h. codes "sound\n" ++ (l ++ h)) line lines) c.format.ensures.ok
