-- What the program shows to a question about itself.
use Rattle.std.specs.Prelude.{ℕ, List, codes}
use Rattle.hx_words.specs.declared.commands.Question.{Question}
use Rattle.hx_words.specs.declared.commands.Question.TheVariants.{Help, Version}

abbrev pub shown_text : Question → List ℕ
shown_text Help =
    codes "hx: a searchable key-value store whose histories are proved linear\n\nusage: hx replay [--trace] < SCRIPT\n       hx run [--workers W] [--lose N] [--repeat N] [--seed S]\n              [--trace] < SCRIPT\n       hx soak SEED CALLS [--workers W]\n       hx plan < SCRIPT\n       hx share [--workers W] < SCRIPT\n       hx audit < REPORT\n\nCommands:\n  replay       run the script that stands on standard input, and write every\n               reply and every key's history on standard output;\n               with --trace every step of every actor too\n  run          the same on W threads (1 to 16; 2 where it isn't said), losing\n               and repeating one message in so many of each thread's\n               (0 to 1000000; never where it isn't said), which are counted,\n               or drawn from the seed S where it is said (any number of 64 bits)\n  soak         run 1 to 16384 calls drawn from a seed on W threads, and write\n               a summary that is the same for every W\n  plan         write which regions each search of the script asks\n  share        make the script's calls one at a time behind one lock, by W\n               callers on threads (1 to 16; 2 where it isn't said), and write\n               the report; the script's steps are not taken\n  audit        read a report, of whichever store, and write audit yes where\n               each key's history is linear and each search whole and true;\n               else tell the first of the clauses foreign, legal, missing,\n               order, whole and true that is broken, and its lowest line.\n               It says nothing of versions of items, of causes, or of calls\n               that the report leaves out; with status 3, order means that\n               no report has such a line\n\nOptions:\n  --help       print this help\n  --version    print the version\n\nStatus: 0 fine, 1 a report that breaks a clause, 2 usage, 3 a text that can't\nbe run or is no report, 4 a fault of reading, 5 a fault of writing, 6 want of\nmemory, 7 an actor made 1,048,576 entries.\n"
shown_text Version = codes "hx 0.1.0\n"
