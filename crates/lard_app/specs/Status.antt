-- The exit codes of the program, and what it says of a status.
use Rattle.std.specs.Prelude.{ℕ, List, [], ◌++◌, codes, decimal}
use Rattle.lard_audit.specs.declared.rule.Rule.{Rule}
use Rattle.lard_audit.specs.declared.rule.Rule.TheVariants.{Network, Owner, Sender, Admission, Choice, Cache, Clock}
use Rattle.lard_law_view.specs.Prelude.{ConfigFault, FileFault, Refusal, What, key_word}
use Rattle.lard_base.specs.declared.config.ConfigFault.TheVariants.{Range, LowHigh, NoRoom}
use Rattle.lard_files.specs.declared.fault.FileFault.TheVariants as file_fault
use Rattle.lard_rules.specs.declared.fault.Refusal.TheVariants.{NotSent, WasLost, NoClient, Used, NoNode, LastNode, NoJob}
use Rattle.lard_rules.specs.declared.fault.What.TheVariants.{Input, Packets, PacketBytes, Records, Answers, Requests, Stream}
use Rattle.lard_app.specs.declared.status.Why.{Why}
use Rattle.lard_app.specs.declared.status.Why.TheVariants.{Syntax, Config, File, Untimely, NoFile, NotOpen, Broken}
use Rattle.lard_app.specs.declared.status.Status.{Status}
use Rattle.lard_app.specs.declared.status.Status.TheVariants.{Done, Usage, Refused, ReadFault, WriteFault, NoMemory, Limit}

abbrev pub code_of : Status → ℕ
code_of Done = 0
code_of Usage = 1
code_of (Refused line why) = 2
code_of ReadFault = 3
code_of WriteFault = 4
code_of NoMemory = 5
code_of (Limit line what) = 6

-- the line's number, before what is wrong with it
abbrev pub line_prefix : ℕ → List ℕ
line_prefix line = codes "line " ++ decimal line ++ codes ": "

-- what is wrong with a configuration, behind a text
abbrev pub with_fault : List ℕ → ConfigFault → List ℕ
with_fault text (Range key value) = text ++ key_word key ++ codes " out of range: " ++ decimal value
with_fault text (LowHigh low high) = text ++ codes "low " ++ decimal low ++ codes " above high " ++ decimal high
with_fault text NoRoom = text ++ codes "no connection can be admitted"

-- why a file is not added, behind a text; want of memory is told as a status of its own, and never so
abbrev pub with_file_fault : List ℕ → FileFault → List ℕ
with_file_fault text file_fault.Repeated = text ++ codes "file repeated"
with_file_fault text (file_fault.TooLong n) = text ++ codes "file too long: " ++ decimal n
with_file_fault text (file_fault.TooMany n) = text ++ codes "too many files: " ++ decimal n
with_file_fault text (file_fault.TooMuch n) = text ++ codes "files too large: " ++ decimal n
with_file_fault text file_fault.NoMemory = text ++ codes "no memory"

-- why an event can't happen, behind a text
abbrev pub with_refusal : List ℕ → Refusal → List ℕ
with_refusal text (NotSent k sent) = text ++ codes "packet " ++ decimal k ++ codes " of " ++ decimal sent ++ codes " sent"
with_refusal text (WasLost k) = text ++ codes "packet " ++ decimal k ++ codes " was lost"
with_refusal text (NoClient c) = text ++ codes "client " ++ decimal c ++ codes " not opened"
with_refusal text (Used c) = text ++ codes "client " ++ decimal c ++ codes " opened before"
with_refusal text (NoNode n nodes) = text ++ codes "node " ++ decimal n ++ codes " above " ++ decimal nodes
with_refusal text (LastNode n) = text ++ codes "node " ++ decimal n ++ codes " is the last"
with_refusal text (NoJob n j len) = text ++ codes "job " ++ decimal j ++ codes " of " ++ decimal len ++ codes " at node " ++ decimal n

-- the word of a rule
abbrev pub rule_word : Rule → List ℕ
rule_word Network = codes "network"
rule_word Owner = codes "owner"
rule_word Sender = codes "sender"
rule_word Admission = codes "admission"
rule_word Choice = codes "choice"
rule_word Cache = codes "cache"
rule_word Clock = codes "clock"

abbrev pub why_text : ℕ → Why → List ℕ
why_text line Syntax = line_prefix line ++ codes "not a line of the schedule"
why_text line (Config fault) = with_fault (line_prefix line) fault
why_text line (File fault) = with_file_fault (line_prefix line) fault
why_text line (Untimely reason) = with_refusal (line_prefix line) reason
why_text line NoFile = line_prefix line ++ codes "no such file"
why_text line (NotOpen number) = line_prefix line ++ codes "request " ++ decimal number ++ codes " is not open"
why_text line (Broken rule) = line_prefix line ++ codes "breaks " ++ rule_word rule

abbrev pub what_word : What → List ℕ
what_word Input = codes "input"
what_word Packets = codes "packets"
what_word PacketBytes = codes "packet-bytes"
what_word Records = codes "records"
what_word Answers = codes "answers"
what_word Requests = codes "requests"
what_word Stream = codes "stream"

-- what is printed to standard error, without the line feed
abbrev pub line_text : Status → List ℕ
line_text Done = []
line_text Usage = codes "usage: lardsim replay | generate SEED CLIENTS | audit | lab POLICY"
line_text (Refused line why) = why_text line why
line_text ReadFault = codes "read fault"
line_text WriteFault = codes "write fault"
line_text NoMemory = codes "no memory"
line_text (Limit line what) = line_prefix line ++ codes "limit " ++ what_word what
