pub mod SerialLaws
