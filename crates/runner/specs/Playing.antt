-- What an input says, and how it is played (docs/PROGRAM.md, "INPUT").
use Rattle.std.specs.Prelude.{ℕ, ◌+◌, ◌<◌, ◌≤◌, ◌≡◌, ◌≢◌, ◌⊎◌, List, [], ◌∷◌, ◌++◌, replicate, flat_map, length, take, Option, Some, None, IfSome, Result, Ok, Err}
use Rattle.std.specs.List.{AllByRecursion}
use Rattle.board_step.specs.Hardware.{Hardware}
use Rattle.board_step.specs.ResetState.{reset_state}
use Rattle.board_step.specs.Run.{Run}
use Rattle.board_step.specs.State.{BoardView}
use Rattle.board_step.specs.declared.env.Env.{Env}
use Rattle.runner.specs.Input.{IsResetLine, IsEnvLine, reset_of, reset_text, env_text, env_of}
use Rattle.run_lines.specs.Told.{TellsUpTo}
use Rattle.runner.specs.Machine.{IsOver, RunsTo}
use Rattle.runner.specs.Output.{summary_text}
use Rattle.runner.specs.declared.fault.PlayFault.{PlayFault}
use Rattle.runner.specs.declared.fault.PlayFault.TheVariants.{Line, Read, Write}
use Rattle.runner.specs.declared.input.EnvLine.{EnvLine}
use Rattle.runner.specs.declared.input.ResetLine.{ResetLine}
use Rattle.runner.specs.declared.machine.Summary.{Summary}
use Rattle.texts.specs.Device.{DeviceState, FailsAmid, Gives, GivesBytes, HasFailed, CountsNoFailure, Takes}
use Rattle.texts.specs.Incoming.{HasNoFeed, IsEnough, TakesEnough, TakesNone}
use Rattle.certificate.specs.Pieces.{OfBytes}

-- the longest line of an input, without its line feed
abbrev pub LONGEST : ℕ
LONGEST = 30

-- the environments of the events of lines, one for each event
abbrev pub envs_of : List EnvLine → List Env
envs_of lines = flat_map (λ line. replicate line.count (env_of line)) lines

-- the bytes of lines, each with its line feed
abbrev pub env_lines_text : List EnvLine → List ℕ
env_lines_text lines = flat_map (λ line. env_text line ++ 10 ∷ []) lines

-- an input begins with a reset line and lines of environments, all in form (docs/PROGRAM.md, "INPUT")
pub record InputBegins (reset : ResetLine) (lines : List EnvLine) (rest bytes : List ℕ) : Type 0 where
  pub reset_form : IsResetLine reset
  pub lines_form : AllByRecursion IsEnvLine lines
  pub parts : bytes ≡ (reset_text reset ++ 10 ∷ env_lines_text lines) ++ rest

-- An input was played for at most `steps` events. All of it is in form, or a prefix of it that has these events. The
-- summary is that of the run over its environments, and `told` are the lines of the run's NMI routines.
pub record Played (hardware : Hardware) (steps : ℕ) (summary : Summary) (told bytes : List ℕ) : Type 0 where
  pub reset : ResetLine
  pub lines : List EnvLine
  pub rest : List ℕ
  pub begins : InputBegins reset lines rest bytes
  pub enough : (rest ≡ []) ⊎ (steps ≤ length (envs_of lines))
  pub last : BoardView
  pub runs : RunsTo hardware (reset_state (reset_of reset)) (take steps (envs_of lines)) summary last
  pub told_is : TellsUpTo runs.run runs.run.count told

-- the lines of the run from a state over these environments
pub record ToldOver (hardware : Hardware) (start : BoardView) (envs : List Env) (told : List ℕ) : Type 0 where
  pub run : Run hardware
  pub last : BoardView
  pub over : IsOver run start envs last
  pub told_is : TellsUpTo run run.count told

-- no line of this kind, in form and with its line feed, begins the bytes
abbrev pub BeginsWithNo : {X : Type 0} → (X → List ℕ) → (X → Type 0) → List ℕ → Type 0
BeginsWithNo {X} text InForm bytes = (line : X) (rest : List ℕ) → InForm line → bytes ≢ text line ++ 10 ∷ rest

-- the first line is absent or out of form, and no line was written
pub record IsBadFirst (number : ℕ) (told bytes : List ℕ) : Type 0 where
  pub first : number ≡ 1
  pub bad : BeginsWithNo reset_text IsResetLine bytes
  pub none : told ≡ []

-- the lines before this one are in form and have fewer than `steps` events, and this one is out of form; `told` are the
-- lines of their events
pub record IsBadLater (hardware : Hardware) (steps number : ℕ) (told bytes : List ℕ) : Type 0 where
  pub reset : ResetLine
  pub lines : List EnvLine
  pub rest : List ℕ
  pub begins : InputBegins reset lines rest bytes
  pub needed : length (envs_of lines) < steps
  pub some : rest ≢ []
  pub bad : BeginsWithNo env_text IsEnvLine rest
  pub number_is : number ≡ length lines + 2
  pub told_is : ToldOver hardware (reset_state (reset_of reset)) (envs_of lines) told

-- the first needed line of an input that is out of form, counted from 1, and the lines of the events before it
abbrev pub IsBadLine : Hardware → ℕ → ℕ → List ℕ → List ℕ → Type 0
IsBadLine hardware steps number told bytes = IsBadFirst number told bytes ⊎ IsBadLater hardware steps number told bytes

-- the text of a play: if the input is played to its end, the lines of its run and the summary; else the lines of the
-- events before the first needed line that is out of form
abbrev pub IsTextOf : Hardware → ℕ → List ℕ → List ℕ → Type 0
IsTextOf hardware steps bytes text =
    ((summary : Summary) × (told : List ℕ) × Played hardware steps summary told bytes × (text ≡ told ++ summary_text summary))
    ⊎ ((number : ℕ) × IsBadLine hardware steps number text bytes)

-- a text is a prefix of the text of each input that begins with these bytes
pub record BeginsEach (hardware : Hardware) (steps : ℕ) (read text : List ℕ) : Type 0 where
  pub each : (more whole : List ℕ) → IsTextOf hardware steps (read ++ more) whole → (rest : List ℕ) × (whole ≡ text ++ rest)

-- a part of an input was read, and the lines are a prefix of the text of each input that begins so
pub record IsPart (hardware : Hardware) (steps : ℕ) (told bytes : List ℕ) : Type 0 where
  pub read : List ℕ
  pub more : List ℕ
  pub parts : bytes ≡ read ++ more
  pub begins : BeginsEach hardware steps read told

-- a line with neither its line feed nor its 31st byte
pub record IsUnjudged (line : List ℕ) : Type 0 where
  pub no_feed : HasNoFeed line
  pub short : length line ≤ LONGEST

-- the bytes end inside a needed line of environments: the lines before it are in form and have fewer than `steps`
-- events
pub record IsAmidLater (steps : ℕ) (bytes : List ℕ) : Type 0 where
  pub reset : ResetLine
  pub lines : List EnvLine
  pub line : List ℕ
  pub begins : InputBegins reset lines line bytes
  pub needed : length (envs_of lines) < steps
  pub unjudged : IsUnjudged line

-- the bytes end inside a needed line, the first or a later one
abbrev pub IsAmidNeeded : ℕ → List ℕ → Type 0
IsAmidNeeded steps bytes = IsUnjudged bytes ⊎ IsAmidLater steps bytes

-- the bytes of lines, each with its line feed
abbrev pub with_feeds : List (List ℕ) → List ℕ
with_feeds lines = flat_map (λ line. line ++ 10 ∷ []) lines

-- all of an input but the rest was read, and that is enough to judge the line with this number
pub record IsJudged (number : ℕ) (all rest : List ℕ) : Type 0 where
  -- the lines before it, and what was read from its first byte on
  pub lines : List (List ℕ)
  pub line : List ℕ
  pub each : AllByRecursion HasNoFeed lines
  pub number_is : number ≡ length lines + 1
  pub parts : all ≡ (with_feeds lines ++ line) ++ rest
  pub enough : IsEnough LONGEST line (rest ≡ [])

-- a line was judged at its line feed, its 31st byte or the end, and not earlier, if the source's bytes are known
abbrev pub WasJudged : ℕ → Option (List ℕ) → Option (List ℕ) → Type 0
WasJudged number (Some all) new = (rest : List ℕ) × (new ≡ Some rest) × IsJudged number all rest
WasJudged number None new = Unit {0}

-- an input was played, with the summary and the lines of its run
pub record IsPlayed (hardware : Hardware) (steps : ℕ) (summary : Summary) (told : List ℕ) (old new : DeviceState) : Type 0 where
  pub played : OfBytes old.bytes (Played hardware steps summary told)
  pub quiet : CountsNoFailure old new

-- an input was played up to the first needed line that is out of form
pub record StopsAtLine (hardware : Hardware) (steps number : ℕ) (told : List ℕ) (old new : DeviceState) : Type 0 where
  pub bad : OfBytes old.bytes (IsBadLine hardware steps number told)
  pub judged : WasJudged number old.bytes new.bytes
  pub quiet : CountsNoFailure old new

-- The input gave these bytes and then failed. They end inside a needed line, so nothing beyond it was read. The lines
-- so far are a prefix of the text of each input that begins with these bytes.
pub record StopsReading (hardware : Hardware) (steps : ℕ) (told : List ℕ) (old new : DeviceState) : Type 0 where
  pub failed : HasFailed old new
  pub read : List ℕ
  pub given : GivesBytes old.bytes read new.bytes
  pub needed : IsAmidNeeded steps read
  pub begins : BeginsEach hardware steps read told

-- the input gave these bytes without a failure; the lines so far, which were to be written, are a prefix of the text of
-- each input that begins with these bytes
pub record StopsWriting (hardware : Hardware) (steps : ℕ) (told : List ℕ) (old new : DeviceState) : Type 0 where
  pub read : List ℕ
  pub given : Gives old read new
  pub begins : BeginsEach hardware steps read told

-- how a play ended, before the summary: its lines were written, or the output failed inside them
abbrev pub PlaysInput : Hardware → ℕ → DeviceState → DeviceState → Result Summary PlayFault → DeviceState → DeviceState → Type 0
PlaysInput hardware steps old new (Ok summary) before after = (told : List ℕ) × IsPlayed hardware steps summary told old new × Takes before told after
PlaysInput hardware steps old new (Err (Line number)) before after = (told : List ℕ) × StopsAtLine hardware steps number told old new × Takes before told after
PlaysInput hardware steps old new (Err Read) before after = (told : List ℕ) × StopsReading hardware steps told old new × Takes before told after
PlaysInput hardware steps old new (Err Write) before after = (told : List ℕ) × StopsWriting hardware steps told old new × FailsAmid before told after

-- the output failed inside the text of a play, or inside a prefix of it
abbrev pub FailsAmidText : Hardware → ℕ → DeviceState → DeviceState → DeviceState → DeviceState → Type 0
FailsAmidText hardware steps old new before after =
    ((told : List ℕ) × StopsWriting hardware steps told old new × FailsAmid before told after)
    ⊎ ((summary : Summary) × (told : List ℕ) × IsPlayed hardware steps summary told old new × FailsAmid before (told ++ summary_text summary) after)

-- how a play ended, by the states of the input and the output before and after. The text was written whole, or up to
-- the bad line, or up to where the input failed; or the output failed inside it
abbrev pub Plays : Hardware → ℕ → DeviceState → DeviceState → Result Summary PlayFault → DeviceState → DeviceState → Type 0
Plays hardware steps old new (Ok summary) before after = (told : List ℕ) × IsPlayed hardware steps summary told old new × Takes before (told ++ summary_text summary) after
Plays hardware steps old new (Err (Line number)) before after = (told : List ℕ) × StopsAtLine hardware steps number told old new × Takes before told after
Plays hardware steps old new (Err Read) before after = (told : List ℕ) × StopsReading hardware steps told old new × Takes before told after
Plays hardware steps old new (Err Write) before after = FailsAmidText hardware steps old new before after

-- the first line was read, with its line feed
abbrev pub TakesReset : DeviceState → ResetLine → DeviceState → Type 0
TakesReset old line new = IsResetLine line × Gives old (reset_text line ++ 10 ∷ []) new

-- a line of environments was read, or nothing is left
abbrev pub TakesEnv : DeviceState → Option EnvLine → DeviceState → Type 0
TakesEnv old (Some line) new = IsEnvLine line × Gives old (env_text line ++ 10 ∷ []) new
TakesEnv old None new = TakesNone old new

-- the line with this number was read; or it is bad, and just enough was read to know it; or the input failed
abbrev pub ReadsInputLine : {X : Type 0} → (DeviceState → X → DeviceState → Type 0) → (List ℕ → Type 0) → ℕ → DeviceState → Result X PlayFault → DeviceState → Type 0
ReadsInputLine TakesIt IsBad number old (Ok line) new = TakesIt old line new
ReadsInputLine TakesIt IsBad number old (Err (Line n)) new = (n ≡ number) × IfSome old.bytes IsBad × TakesEnough LONGEST old new
ReadsInputLine TakesIt IsBad number old (Err Read) new = HasFailed old new
ReadsInputLine TakesIt IsBad number old (Err Write) new = ⊥

-- no reset line begins these bytes
abbrev pub HasNoReset : List ℕ → Type 0
HasNoReset bytes = BeginsWithNo reset_text IsResetLine bytes

-- there are bytes, and no line of environments begins them
abbrev pub HasNoEnv : List ℕ → Type 0
HasNoEnv bytes = (bytes ≢ []) × BeginsWithNo env_text IsEnvLine bytes
