use Rattle.std.proofs.Common.{◌≡◌, ◌∙◌, Option, Some, inl, inr, refl, subst, sym}
use Rattle.mrt_io.specs.Holding.{Files}
use Rattle.mrt_exit.specs.declared.exit.Exit.{Exit}
use Rattle.mrt_exit.specs.declared.exit.Exit.TheVariants as exits
use Rattle.mrt_cmd.specs.Causes.{HasNoText, ShelfInCall, shelf_over}
use Rattle.mrt_cmd.specs.Comes.{GivesText}
use Rattle.mrt_cmd.specs.Run.{WritesNothing}
use Rattle.mrt_cmd.proofs.Causes.{passed_stopped, stopped, told_of, written}
use Rattle.mrt_cmd.proofs.SurveyExits.{memory_of_survey, written_of_survey}
use Rattle.mrt_answer.proofs.TextsHeld.{BytesOf, some_bytes}
use Rattle.mrt_cmd.proofs.WrittenPasses.{passed_written}
use Rattle.mrt_cmd.proofs.program.run.Given.{Over}
use Rattle.mrt_cmd.proofs.program.run.Goals as goal

-- the bytes of the text that the words give
the_text : (g : Over) (c : goal.After-tell g) → BytesOf (GivesText (g.F.Shelf.held c.args.shelf.now) c.args.words.now) c.in-Ok.text
the_text g c = some_bytes (GivesText (g.F.Shelf.held c.args.shelf.now) c.args.words.now) c.in-Ok.text c.in-Ok.ensures.text

-- All causes as one, where the words give a text: the other clauses are parts of it.
pub returns-in-Ok-clause-answered : goal.returns-in-Ok-clause-answered
returns-in-Ok-clause-answered g c =
    let text = the_text g c in
    rw c.tell.ensures.same
    (written c.one_exit_comes.ensures.exit c.args.words.now _ _ _ c.put_text.result text.bytes text.held
    c.put_text.ensures.kind (c.put_text.ensures.done text.bytes text.are)
    (c.put_text.ensures.write_fault text.bytes text.are)
    (told_of _ c.put_text.result c.tell.ensures.silent c.tell.ensures.line)
    (λ spared. elim spared [
      | inl calm ↦ c.put_text.ensures.calm calm
      | inr healthy ↦ c.put_text.ensures.healthy text.bytes text.are (healthy text.bytes text.held)
    ]) c.text_for.ensures.no_fault
    (λ healthy. c.put_text.ensures.no_fault text.bytes text.are (healthy text.bytes text.held)))

pub returns-in-Ok-clause-done : goal.returns-in-Ok-clause-done
returns-in-Ok-clause-done g c =
    let text = the_text g c in
    λ is. (text.bytes, text.held, c.put_text.ensures.done text.bytes text.are (sym c.tell.ensures.same ∙ is))

pub returns-in-Ok-clause-write_fault : goal.returns-in-Ok-clause-write_fault
returns-in-Ok-clause-write_fault g c =
    let text = the_text g c in
    λ taken is. (text.bytes, text.held, c.put_text.ensures.write_fault text.bytes text.are taken (sym c.tell.ensures.same ∙ is))

pub returns-in-Ok-clause-no_write_fault : goal.returns-in-Ok-clause-no_write_fault
returns-in-Ok-clause-no_write_fault g c =
    let text = the_text g c in
    λ healthy. c.put_text.ensures.no_fault text.bytes text.are (healthy text.bytes text.held)

pub returns-in-Ok-clause-usage : goal.returns-in-Ok-clause-usage
returns-in-Ok-clause-usage g c = (returns-in-Ok-clause-answered g c).usage

pub returns-in-Ok-clause-healthy_read : goal.returns-in-Ok-clause-healthy_read
returns-in-Ok-clause-healthy_read g c = (returns-in-Ok-clause-answered g c).missing

pub returns-in-Ok-clause-comes : goal.returns-in-Ok-clause-comes
returns-in-Ok-clause-comes g c = (returns-in-Ok-clause-answered g c).complete

pub returns-in-Ok-clause-exactly : goal.returns-in-Ok-clause-exactly
returns-in-Ok-clause-exactly g c = (returns-in-Ok-clause-answered g c).exactly

-- an exit of something written to the output is none on which nothing is
never : (g : Over) (c : goal.After-tell g) (exit : Exit) → WritesNothing exit → c.tell.result ≡ exit → ⊥
never g c exit nothing is = c.put_text.ensures.kind (subst WritesNothing (sym (sym c.tell.ensures.same ∙ is)) nothing)

pub returns-in-Ok-clause-usage_reads_nothing : goal.returns-in-Ok-clause-usage_reads_nothing
returns-in-Ok-clause-usage_reads_nothing g c = λ is. absurd (never g c exits.Usage tt is)

pub returns-in-Ok-clause-read_fault : goal.returns-in-Ok-clause-read_fault
returns-in-Ok-clause-read_fault g c = λ word is. absurd (never g c (exits.ReadFault word) tt is)

pub returns-in-Ok-clause-too_large : goal.returns-in-Ok-clause-too_large
returns-in-Ok-clause-too_large g c = λ what size is. absurd (never g c (exits.TooLarge what size) tt is)

pub returns-in-Ok-clause-bad_database : goal.returns-in-Ok-clause-bad_database
returns-in-Ok-clause-bad_database g c = λ at kind is. absurd (never g c (exits.BadDatabase at kind) tt is)

pub returns-in-Ok-clause-bad_profile : goal.returns-in-Ok-clause-bad_profile
returns-in-Ok-clause-bad_profile g c = λ line kind is. absurd (never g c (exits.BadProfile line kind) tt is)

pub returns-in-Ok-clause-bad_certificate : goal.returns-in-Ok-clause-bad_certificate
returns-in-Ok-clause-bad_certificate g c = λ at kind is. absurd (never g c (exits.BadCertificate at kind) tt is)

pub returns-in-Ok-clause-bad_update : goal.returns-in-Ok-clause-bad_update
returns-in-Ok-clause-bad_update g c = λ at kind is. absurd (never g c (exits.BadUpdate at kind) tt is)

pub returns-in-Ok-clause-bad_script : goal.returns-in-Ok-clause-bad_script
returns-in-Ok-clause-bad_script g c = λ line is. absurd (never g c (exits.BadScript line) tt is)

pub returns-in-Ok-clause-not_there : goal.returns-in-Ok-clause-not_there
returns-in-Ok-clause-not_there g c = λ number is. absurd (never g c (exits.NotThere number) tt is)

pub returns-in-Ok-clause-no : goal.returns-in-Ok-clause-no
returns-in-Ok-clause-no g c = λ rule a b is. absurd (never g c (exits.No rule a b) tt is)

pub returns-in-Ok-clause-no_from_a_verdict_alone : goal.returns-in-Ok-clause-no_from_a_verdict_alone
returns-in-Ok-clause-no_from_a_verdict_alone g c = λ rule a b is. absurd (never g c (exits.No rule a b) tt is)

pub returns-in-Ok-clause-writes_nothing : goal.returns-in-Ok-clause-writes_nothing
returns-in-Ok-clause-writes_nothing g c = λ nothing. absurd (never g c c.tell.result nothing refl)

pub returns-in-Ok-clause-silent : goal.returns-in-Ok-clause-silent
returns-in-Ok-clause-silent g c = λ is. c.tell.ensures.silent (sym c.tell.ensures.same ∙ is)

pub returns-in-Ok-clause-line : goal.returns-in-Ok-clause-line
returns-in-Ok-clause-line g c = rw c.tell.ensures.same c.tell.ensures.line

-- And where they give none.
abbrev shelf_of : (g : Over) → goal.After-tell-in-Err g → ShelfInCall
shelf_of g c = shelf_over g.F.Shelf.held g.F.Shelf.healthy g.F.Shelf.faults c.args.shelf.now c.text_for.new.shelf

pub returns-in-Err-clause-answered : goal.returns-in-Err-clause-answered
returns-in-Err-clause-answered g c =
    rw c.tell-in-Err.ensures.same
    (stopped c.one_exit_comes.ensures.exit c.args.words.now _ _ _ c.in-Err.exit c.in-Err.ensures.cause refl refl
    (told_of _ c.in-Err.exit c.tell-in-Err.ensures.silent c.tell-in-Err.ensures.line) c.in-Err.ensures.comes c.text_for.ensures.no_fault)

pub returns-in-Err-clause-usage : goal.returns-in-Err-clause-usage
returns-in-Err-clause-usage g c = (returns-in-Err-clause-answered g c).usage

pub returns-in-Err-clause-healthy_read : goal.returns-in-Err-clause-healthy_read
returns-in-Err-clause-healthy_read g c = (returns-in-Err-clause-answered g c).missing

pub returns-in-Err-clause-comes : goal.returns-in-Err-clause-comes
returns-in-Err-clause-comes g c = (returns-in-Err-clause-answered g c).complete

pub returns-in-Err-clause-exactly : goal.returns-in-Err-clause-exactly
returns-in-Err-clause-exactly g c = (returns-in-Err-clause-answered g c).exactly

-- what the exit says of why the words give no text
abbrev Says : (g : Over) → goal.After-tell-in-Err g → Exit → Type 0
Says g c exit = HasNoText c.args.words.now (shelf_of g c) exit

says : (g : Over) (c : goal.After-tell-in-Err g) (exit : Exit) → c.tell-in-Err.result ≡ exit → Says g c exit
says g c exit is = subst (Says g c) (sym c.tell-in-Err.ensures.same ∙ is) c.in-Err.ensures.cause

pub returns-in-Err-clause-usage_reads_nothing : goal.returns-in-Err-clause-usage_reads_nothing
returns-in-Err-clause-usage_reads_nothing g c = λ is. (says g c exits.Usage is).1

pub returns-in-Err-clause-read_fault : goal.returns-in-Err-clause-read_fault
returns-in-Err-clause-read_fault g c = λ word is. says g c (exits.ReadFault word) is

pub returns-in-Err-clause-too_large : goal.returns-in-Err-clause-too_large
returns-in-Err-clause-too_large g c = λ what size is. says g c (exits.TooLarge what size) is

pub returns-in-Err-clause-bad_database : goal.returns-in-Err-clause-bad_database
returns-in-Err-clause-bad_database g c = λ at kind is. says g c (exits.BadDatabase at kind) is

pub returns-in-Err-clause-bad_profile : goal.returns-in-Err-clause-bad_profile
returns-in-Err-clause-bad_profile g c = λ line kind is. says g c (exits.BadProfile line kind) is

pub returns-in-Err-clause-bad_certificate : goal.returns-in-Err-clause-bad_certificate
returns-in-Err-clause-bad_certificate g c = λ at kind is. says g c (exits.BadCertificate at kind) is

pub returns-in-Err-clause-bad_update : goal.returns-in-Err-clause-bad_update
returns-in-Err-clause-bad_update g c = λ at kind is. says g c (exits.BadUpdate at kind) is

pub returns-in-Err-clause-bad_script : goal.returns-in-Err-clause-bad_script
returns-in-Err-clause-bad_script g c = λ line is. says g c (exits.BadScript line) is

pub returns-in-Err-clause-not_there : goal.returns-in-Err-clause-not_there
returns-in-Err-clause-not_there g c = λ number is. says g c (exits.NotThere number) is

pub returns-in-Err-clause-no : goal.returns-in-Err-clause-no
returns-in-Err-clause-no g c = λ rule a b is. (says g c (exits.No rule a b) is).0

pub returns-in-Err-clause-no_from_a_verdict_alone : goal.returns-in-Err-clause-no_from_a_verdict_alone
returns-in-Err-clause-no_from_a_verdict_alone g c = λ rule a b is. (says g c (exits.No rule a b) is).1

pub returns-in-Err-clause-done : goal.returns-in-Err-clause-done
returns-in-Err-clause-done g c = λ is. absurd (says g c exits.Done is)

pub returns-in-Err-clause-write_fault : goal.returns-in-Err-clause-write_fault
returns-in-Err-clause-write_fault g c = λ taken is. absurd (says g c (exits.WriteFault taken) is)

pub returns-in-Err-clause-silent : goal.returns-in-Err-clause-silent
returns-in-Err-clause-silent g c = λ is. absurd (says g c exits.Done is)

pub returns-in-Err-clause-line : goal.returns-in-Err-clause-line
returns-in-Err-clause-line g c = rw c.tell-in-Err.ensures.same c.tell-in-Err.ensures.line

-- A certificate that was written passes.
pub returns-in-Ok-clause-written_passes : goal.returns-in-Ok-clause-written_passes
returns-in-Ok-clause-written_passes g c = λ files held written.
    rw c.tell.ensures.same (passed_written c.put_text.result c.put_text.ensures.kind)

pub returns-in-Err-clause-written_passes : goal.returns-in-Err-clause-written_passes
returns-in-Err-clause-written_passes g c = λ files held written.
    let passes = c.what_was_written_passes.ensures files c.args.words.now written in
    rw c.tell-in-Err.ensures.same
    (passed_stopped c.one_exit_comes.ensures.exit files c.args.words.now (shelf_of g c) held passes.0 passes.1 c.in-Err.exit
    c.in-Err.ensures.cause)

-- Routers that have to tell the same are told so.
pub returns-in-Ok-clause-told_alike : goal.returns-in-Ok-clause-told_alike
returns-in-Ok-clause-told_alike g c = λ files held alike is.
    let text = the_text g c in
    let given : GivesText (Some files) c.args.words.now text.bytes =
    subst (λ (of : Option Files). GivesText of c.args.words.now text.bytes) held text.held in (
      text.bytes,
      c.put_text.ensures.done text.bytes text.are (sym c.tell.ensures.same ∙ is),
      c.alike_routers_are_told_alike.ensures files c.args.words.now text.bytes given alike,
    )

pub returns-in-Err-clause-told_alike : goal.returns-in-Err-clause-told_alike
returns-in-Err-clause-told_alike g c = λ files held alike is. absurd (says g c exits.Done is)

-- A survey is never refused, and it reads nothing.
pub returns-in-Ok-clause-survey : goal.returns-in-Ok-clause-survey
returns-in-Ok-clause-survey g c = λ surveys.
    rw c.tell.ensures.same (written_of_survey c.put_text.result c.put_text.ensures.kind)

pub returns-in-Err-clause-survey : goal.returns-in-Err-clause-survey
returns-in-Err-clause-survey g c = λ surveys.
    memory_of_survey c.tell-in-Err.result (c.tell-in-Err.ensures.same ∙ c.in-Err.ensures.survey surveys)
