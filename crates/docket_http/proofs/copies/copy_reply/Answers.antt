use Rattle.std.proofs.Common.{◌≡◌, ℕ, List, Option, None, Some, inl, inr, refl, subst, sym}
use Rattle.std.specs.Option.{option_map}
use Rattle.docket_http.specs.Answer.{Response, fine, problem_page}
use Rattle.docket_http.specs.Serve.{IsCopyAnswer}
use Rattle.docket_http.specs.declared.head.Form.TheVariants.{File}
use Rattle.docket_http.specs.declared.problem.Problem.TheVariants.{NoCopy, NoMemory}
use Rattle.docket_http.proofs.copies.copy_reply.Goals as goal

answer_as : {T : Type 0} (f : T → List ℕ) (a b : Option T) (response : Response) → b ≡ a → IsCopyAnswer (option_map f a) response → IsCopyAnswer (option_map f b) response
answer_as {T} f a b response same is = subst (λ (o : Option T). IsCopyAnswer (option_map f o) response) (sym same) is

pub returns-in-Ok : goal.returns-in-Ok
returns-in-Ok c =
    (fine File c.in-Some.bytes.items, c.in-Ok.ensures, answer_as (λ bytes. bytes.items) (Some c.in-Some.bytes) c.args.copy (fine File c.in-Some.bytes.items) c.in-Some.is (inl refl))

pub returns-in-Err : goal.returns-in-Err
returns-in-Err c =
    (problem_page NoMemory, (refl, refl), answer_as (λ bytes. bytes.items) (Some c.in-Some.bytes) c.args.copy (problem_page NoMemory) c.in-Some.is (inr refl))

pub returns-in-None : goal.returns-in-None
returns-in-None c = (problem_page NoCopy, (refl, refl), answer_as (λ bytes. bytes.items) None c.args.copy (problem_page NoCopy) c.in-None.is refl)
